-- An owner that a sender meets.
use Rattle.wq_calls.proofs.Common.{◌≡◌, List, [], Option, sym, refl, ap, ◌∙◌, subst, IsPrefix, Machine, IsSound, Part, Stage}
use Rattle.wq_calls.proofs.Common.{IsPartOf, see, all_see, Standing, seeing, plain_view, ValueStanding, standing_of, knowing}
use Rattle.wq_calls.proofs.Common.{plain_telling, owner_seat, Owning as Inside, Known, Sees, Sending, owner_view, sender_view, Sends, Stands, HasRow}
use Rattle.wq_calls.proofs.Common.{OwnsQueue, kept_batch, OwnsSlots}
use Rattle.wq_words.proofs.Prefixes.{prefix_self}
use Rattle.wq_calls.proofs.Tells.{Tells, meet_tells}
use Rattle.wq_calls.proofs.Owned.{running_quiet, counts_quiet}
use Rattle.wq_calls.proofs.Phases.{phase_quiet}
use Rattle.wq_calls.proofs.OwnerTells.{owner_grows, owner_sees}
use Rattle.wq_calls.proofs.OwnerHands.{slots_more}

meet_stands : (m : Machine) (p q : Part) → IsSound m → IsPartOf m p → q ≡ see m.history p → Stands q
meet_stands m p q sound f is = subst Stands (sym is) record {
  machine = m;
  sound = sound;
  fits = record { layout_is = f.layout_is; begins = prefix_self m.history; mine = refl; keeps = f.keeps; links = f.links };
  seen_is = refl;
}

module _ (s : Inside) (q : Standing) (m : Machine) (sound : IsSound m) (f : IsPartOf m s.chair.part)
    (is : q ≡ seeing m s.chair)
    (executes : OwnsQueue s) where
  parts : q.part ≡ see m.history s.chair.part
  parts = ap (λ (x : Standing). x.part) is

  told : Tells [] s.chair.part q.part
  told = meet_tells m s.chair.part q.part sound f parts

  pub meet_executes : OwnsQueue (record s { chair = q })
  meet_executes = let g = owner_grows [] 0 s (record s { chair = q }) executes told in let v = s.chair.part.seen in let w = q.part.seen in record {
    layout_is = told.layout_is ∙ executes.layout_is;
    number_is = told.seat_is ∙ executes.number_is;
    stands = meet_stands m s.chair.part q.part sound f parts;
    has_row = subst (HasRow s.row) (sym parts) (record { stage_is = executes.has_row.stage_is; row_is = executes.has_row.row_is });
    running_is = executes.running_is ∙ sym (running_quiet [] 0 v w g refl refl);
    phase_is = executes.phase_is ∙ sym (phase_quiet [] 0 v w g refl);
    counts_are = counts_quiet [] 0 v w g refl refl refl s.counts executes.counts_are;
  }

  pub meet_owner_sees : (now : Known) → owner_view s ≡ now → Sees [] 0 now (owner_view (record s { chair = q }))
  meet_owner_sees now view = owner_sees [] 0 s (record s { chair = q }) now view executes refl (ap (λ (x : Standing). x.queue) is) told

module _ {V : Type 0} where
  -- a chair that has seen all, without what was brought
  pub met_plain : (m : Machine) (brs : List (Option V)) (it it' : ValueStanding V) → it' ≡ knowing m brs it → standing_of it' ≡ seeing m (standing_of it)
  met_plain m brs it it' is = ap standing_of is ∙ λ i. record {
    queue = it.queue;
    part = see m.history it.first.part;
    others = plain_telling brs (all_see m.history (plain_view it.others)) i;
  }

  -- the slots of an owner that has seen all
  pub met_slots : (m : Machine) (old new : ValueStanding V) → IsSound m → IsPartOf m old.first.part → old.first.part.seat ≡ owner_seat
      → new.queue ≡ old.queue → new.first.part ≡ see m.history old.first.part → IsPrefix old.first.brought new.first.brought → new.hand ≡ old.hand
      → OwnsSlots old (kept_batch old.first.part.stage) → OwnsSlots new (kept_batch new.first.part.stage)
  met_slots m old new sound f mine queue is more hand slots =
      subst (λ (st : Stage). OwnsSlots new (kept_batch st)) (sym (ap (λ (p : Part). p.stage) is))
      (slots_more old new (kept_batch old.first.part.stage) mine [] 0 queue more (meet_tells m old.first.part new.first.part sound f is) refl hand slots)

-- the owner and the sender that met are of queues of one layout
pub meet_owner_layout : (s : Sending) (t : Inside) (now now' : Known) (m : Machine) → IsPartOf m s.chair.part → IsPartOf m t.chair.part
    → sender_view s ≡ now → owner_view t ≡ now' → Sends s → OwnsQueue t → now'.layout ≡ now.layout
meet_owner_layout s t now now' m f g view view' sends executes =
    sym (ap (λ (v : Known). v.layout) view') ∙
    (sym executes.layout_is ∙ (g.layout_is ∙ (sym f.layout_is ∙ (sends.layout_is ∙ ap (λ (v : Known). v.layout) view))))
