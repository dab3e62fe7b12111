use Rattle.wq_pool_plan.proofs.Common.{List, [], ◌∷◌, ◌++◌, length, sym, ap, ◌∙◌, subst, length-new_senders, untouched_idle, untouched_open, Group, AreDealt}
use Rattle.wq_pool_plan.proofs.Common.{whole_items}
use Rattle.wq_pool_plan.proofs.Seats.{teams_more}
use Rattle.wq_pool_plan.proofs.teams.Teams.add.Goals as goal

pub new-requires-clause-idle : goal.new-requires-clause-idle
new-requires-clause-idle c = untouched_idle c.args.team.worker.seen c.requires.2.untouched

pub new-requires-clause-not_draining : goal.new-requires-clause-not_draining
new-requires-clause-not_draining c draining = untouched_open c.args.team.worker.seen c.requires.2.untouched draining.0

pub deal-requires : goal.deal-requires
deal-requires c =
    let team = c.args.team in let n = c.requires.2 in
    ap length n.senders_are ∙ (length-new_senders team.worker.queue team.worker.layout c.requires.0.senders
    ∙ (sym c.requires.1.groups_count ∙ ap length (sym c.deref_mut.ensures.value)))

pub returns-clause-teams : goal.returns-clause-teams
returns-clause-teams c = λ plan t n.
    let olds = c.args.self.now.groups.items in let news = c.deal.new.groups in let team = c.args.team in
    let dealt : AreDealt team.senders.items olds news = subst (λ (zs : List Group). AreDealt team.senders.items zs news)
    c.deref_mut.ensures.value c.in_ok-deal.ensures in
    let whole = whole_items c.args.self.now.groups.len news olds (dealt.count ∙ sym c.args.self.now.groups.ok.0) in
    teams_more plan c.args.self.now _ team t n (c.in_ok-push.ensures.items ∙ ap (λ z. c.args.self.now.served.items ++ z ∷ []) c.new.ensures.same)
    c.in_ok-push-2.ensures.items (subst (λ (zs : List Group). AreDealt team.senders.items olds zs) (sym whole) dealt)
