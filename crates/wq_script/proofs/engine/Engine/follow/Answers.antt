use Rattle.wq_script.proofs.Common.{sym, ap, refl, arith, length, append-nil}
use Rattle.wq_script.proofs.FollowLists.{follow_meets}
use Rattle.wq_script.proofs.engine.Engine.follow.Goals as goal

pub returns : goal.returns
returns c = λ bytes.
    let e = c.args.self.now in let f = c.follow.ensures in
    record {
      layout = refl;
      meets = λ s m. follow_meets e.layout e.seats c.follow.new.self e.tally s c.args.item c.args.follow.now m c.requires.fits.0 c.requires.fits.1
          (omega (arith, c.as_slice.ensures.fits, ap length c.as_slice.ensures.value)) f.worker f.lists f.others.0 f.others.1;
      lines = λ s m few. sym (append-nil bytes);
      room = λ s m. omega arith;
    }
