use Rattle.std.proofs.lemmas.Option.{MatchOption-at_some, MatchOption-at_none}
use Rattle.std.proofs.lemmas.Result.{on_ok_weaker}
use Rattle.wq_meaning.proofs.Common.{codes, ◌∙◌, ap, sym, inl, inr, refl}
use Rattle.wq_meaning.specs.Replies.{made_text}
use Rattle.wq_meaning.specs.Report.{line}
use Rattle.wq_meaning.proofs.schedule_output.make_turn.Goals as goal

pub returns-in-Some : goal.returns-in-Some
returns-in-Some c =
    let step = c.args.step in
    let tried = c.in_ok-reply.ensures in
    let made = MatchOption-at_some _ _ c.in-Some.reply c.in-Some.is tried.tried in
    let text = ap (λ l. line (made_text l step c.in-Some.reply)) (sym c.requires.same)
    ∙ ap (λ r. line (made_text c.args.core.now.layout step r)) made.2 in
    record {
      same = on_ok_weaker c.write_made.result (λ wrote. tried.same ∙ c.requires.same) c.write_made.ensures.written;
      gives = on_ok_weaker c.write_made.result (λ wrote. (line (made_text c.args.layout.now step c.in-Some.reply), inl (made.0, made.1, text), wrote))
          c.write_made.ensures.written;
    }

pub returns-in-None : goal.returns-in-None
returns-in-None c =
    let tried = c.in_ok-reply.ensures in
    let over = MatchOption-at_none _ _ c.in-None.is tried.tried in
    record {
      same = on_ok_weaker c.write_line.result (λ wrote. tried.same ∙ c.requires.same) c.write_line.ensures.written;
      gives = on_ok_weaker c.write_line.result (λ wrote. (line (codes "not enabled"), inr (over.0, over.1, refl), wrote)) c.write_line.ensures.written;
    }
