use Rattle.wq_check.proofs.Common.{◌≡◌, ◌+◌, ◌++◌, ◌∷◌, [], cond, max, length, is_some, refl, sym, ap, ◌∙◌, accepted, ended, count_by_push, unbegun}
use Rattle.wq_words.specs.History.{accepted_by, ended_by}
use Rattle.wq_words.specs.Counting.{capped, is_chain, is_busy, is_refusal}
use Rattle.std.specs.List.{count_by}
use Rattle.wq_check.specs.Left.{most_waiting}
use Rattle.wq_check.proofs.Lists.{largest_up_to-push}
use Rattle.std.proofs.lemmas.List.{length_push}
use Rattle.wq_words.proofs.Growing.{mapped_push}
use Rattle.wq_check.proofs.counts.Counts.with.Goals as goal

pub returns : goal.returns
returns c = λ h is fits.
    let e = c.args.event in
    let events : c.counted.result ≡ capped (length (h ++ e ∷ [])) =
    c.counted.ensures (length h) (ap (λ x. x.events) is) ∙ ap capped (sym (length_push h e)) in
    let accepted' : c.counted-2.result ≡ capped (length (accepted (h ++ e ∷ []))) =
    c.counted-2.ensures (length (accepted h)) (ap (λ x. x.accepted) is)
    ∙ (ap (λ b. capped (length (accepted h) + cond b 1 0)) (c.is_some.ensures ∙ ap is_some c.accepted_number.ensures.accepted)
    ∙ ap capped (mapped_push accepted_by h e)) in
    let chained : c.counted-3.result ≡ capped (count_by is_chain (h ++ e ∷ [])) =
    c.counted-3.ensures (count_by is_chain h) (ap (λ x. x.chained) is)
    ∙ (ap (λ b. capped (count_by is_chain h + cond b 1 0)) c.is_chain.ensures ∙ ap capped (sym (count_by_push is_chain h e))) in
    let executed : c.counted-4.result ≡ capped (length (ended (h ++ e ∷ []))) =
    c.counted-4.ensures (length (ended h)) (ap (λ x. x.executed) is)
    ∙ (ap (λ b. capped (length (ended h) + cond b 1 0)) (c.is_some-2.ensures ∙ ap is_some c.ended_number.ensures.ended)
    ∙ ap capped (mapped_push ended_by h e)) in
    let busy : c.counted-5.result ≡ capped (count_by is_busy (h ++ e ∷ [])) =
    c.counted-5.ensures (count_by is_busy h) (ap (λ x. x.busy) is)
    ∙ (ap (λ b. capped (count_by is_busy h + cond b 1 0)) c.is_busy.ensures ∙ ap capped (sym (count_by_push is_busy h e))) in
    let refused : c.counted-6.result ≡ capped (count_by is_refusal (h ++ e ∷ [])) =
    c.counted-6.ensures (count_by is_refusal h) (ap (λ x. x.refused) is)
    ∙ (ap (λ b. capped (count_by is_refusal h + cond b 1 0)) c.is_refusal.ensures ∙ ap capped (sym (count_by_push is_refusal h e))) in
    let most : c.max.result ≡ most_waiting (h ++ e ∷ []) =
    c.max.ensures ∙ (ap (λ m. max m c.args.waiting_count) (ap (λ x. x.most_waiting) is)
    ∙ (ap (max (most_waiting h)) fits ∙ sym (largest_up_to-push (λ g. length (unbegun g)) h e))) in
    rw (events, accepted', chained, executed, busy, refused, most) refl
