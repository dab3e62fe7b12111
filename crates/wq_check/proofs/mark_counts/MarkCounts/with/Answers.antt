use Rattle.std.proofs.Common.{◌≡◌, ◌+◌, ◌++◌, ◌∷◌, [], cond, max, length, refl, sym, ap, ◌∙◌}
use Rattle.wq_check.specs.Trace.{queued_by, queued, started_by, started, returned_by, returned, unstarted, most_unstarted}
use Rattle.wq_words.specs.Counting.{capped}
use Rattle.wq_check.proofs.Lists.{largest_up_to-push}
use Rattle.std.proofs.lemmas.List.{length_push}
use Rattle.wq_words.proofs.Growing.{mapped_push}
use Rattle.wq_check.proofs.mark_counts.MarkCounts.with.Goals as goal

pub returns : goal.returns
returns c = λ t is fits.
    let m = c.args.mark in
    let marks : c.counted.result ≡ capped (length (t ++ m ∷ [])) =
    c.counted.ensures (length t) (ap (λ x. x.marks) is) ∙ ap capped (sym (length_push t m)) in
    let queued' : c.counted-2.result ≡ capped (length (queued (t ++ m ∷ []))) =
    c.counted-2.ensures (length (queued t)) (ap (λ x. x.queued) is)
    ∙ (ap (λ b. capped (length (queued t) + cond b 1 0)) c.is_queue.ensures ∙ ap capped (mapped_push queued_by t m)) in
    let started' : c.counted-3.result ≡ capped (length (started (t ++ m ∷ []))) =
    c.counted-3.ensures (length (started t)) (ap (λ x. x.started) is)
    ∙ (ap (λ b. capped (length (started t) + cond b 1 0)) c.is_start.ensures ∙ ap capped (mapped_push started_by t m)) in
    let ended' : c.counted-4.result ≡ capped (length (returned (t ++ m ∷ []))) =
    c.counted-4.ensures (length (returned t)) (ap (λ x. x.ended) is)
    ∙ (ap (λ b. capped (length (returned t) + cond b 1 0)) c.is_end.ensures ∙ ap capped (mapped_push returned_by t m)) in
    let most : c.max.result ≡ most_unstarted (t ++ m ∷ []) =
    c.max.ensures ∙ (ap (λ n. max n c.args.waiting_count) (ap (λ x. x.most_waiting) is)
    ∙ (ap (max (most_unstarted t)) fits ∙ sym (largest_up_to-push (λ u. length (unstarted u)) t m))) in
    rw (marks, queued', started', ended', most) refl
