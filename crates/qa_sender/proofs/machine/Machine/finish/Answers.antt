use Rattle.std.proofs.Common.{◌∷◌}
use Rattle.qa_sender.specs.connection.Known.{IsOf}
use Rattle.qa_sender.proofs.connection_lemmas.OneMore.{counted_is}
use Rattle.qa_sender.proofs.machine.Machine.finish.Goals as goal

pub returns : goal.returns
returns c = λ k e h now detected run events parts stands sent watched.
    let of : IsOf c.count.new.self k (e ∷ h) = rw (c.count.ensures, now) (counted_is k e h c.args.self.now.connection c.args.searched detected events run parts) in
    let kept = c.trim.ensures.stands k (e ∷ h) run.run stands in
    record {
      run = run;
      connection = of;
      packets = kept;
      numbers = sent;
      watch = c.follow.ensures k e h of run kept now watched;
      trimmed = c.trim.ensures.trimmed;
    }
