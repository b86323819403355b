use Rattle.std.proofs.Common.{◌≡◌, ◌∙◌, Err, refl, sym, rules}
use Rattle.std.proofs.lemmas.Result.{on_ok_weaker}
use Rattle.qa_format.specs.format.Reading.{reading}
use Rattle.qa_format.proofs.verdicts.RunsAccepted.{read_as_said}
use Rattle.qa_read.specs.declared.fault.LineFault.TheVariants.{Fault}
use Rattle.qa_check.proofs.Faults.{error_of, stops_differ, memory_is_not_decided, decided_is_not_memory}
use Rattle.qa_check.proofs.Growing.{unread_adds, taken_adds, refused_adds}
use Rattle.qa_check.proofs.checker.Checker.take_read.Goals as goal

pub take-requires : goal.take-requires
take-requires g c = record { whole = c.requires.whole; undecided = c.requires.undecided; few = c.requires.few; fitting = rw c.in-Ok.is at c.requires.fitting }

pub returns-in-Ok : goal.returns-in-Ok
returns-in-Ok g c = record {
  said = on_ok_weaker c.take.result (λ taken. rw c.in-Ok.is refl) c.take.ensures.ok;
  memory = λ is. let no = sym c.in-Ok.is ∙ is in cc;
  fails = c.take.ensures.failed;
  good = on_ok_weaker c.take.result
      (λ taken l short gives.
      let says = read_as_said reading _ l c.requires.few short ∙ (rw c.in-Ok.is at gives) in
      taken_adds _ _ _ l _ taken.0 taken.1 c.requires.undecided says)
      c.take.ensures.ok;
  decided = λ stopped l short gives.
      let whole = c.take.ensures.whole (λ memory. decided_is_not_memory (sym stopped ∙ memory)) in
      let says = read_as_said reading _ l c.requires.few short ∙ (rw c.in-Ok.is at gives) in
      refused_adds _ _ _ l _ whole (c.take.ensures.decided stopped) c.requires.undecided says;
  kept = c.take.ensures.kept;
}

pub stop-requires : goal.stop-requires
stop-requires g c = record { whole = c.requires.whole; undecided = c.requires.undecided }

pub returns-in-Err-Fault : goal.returns-in-Err-Fault
returns-in-Err-Fault g c =
    let stop = c.stop.ensures in
    record {
      said = tt;
      memory = λ is. let is_fault : c.args.read.now ≡ Err (Fault c.in-Err-Fault.fault) = search rules in let no = sym is_fault ∙ is in cc;
      fails = λ is. absurd (stops_differ (sym stop.result ∙ error_of is));
      good = tt;
      decided = λ is l short gives.
          let is_fault : c.args.read.now ≡ Err (Fault c.in-Err-Fault.fault) = search rules in
          let says = read_as_said reading _ l c.requires.few short ∙ (rw is_fault at gives) in
          unread_adds _ c.args.self.now c.stop.new.self l _ stop.whole stop.decided stop.verdict c.requires.undecided says;
      kept = λ is. stop.kept;
    }

pub returns-in-Err-OutOfMemory : goal.returns-in-Err-OutOfMemory
returns-in-Err-OutOfMemory g c = record { said = tt; memory = λ is. refl; fails = λ is. refl; good = tt; decided = λ is. absurd (memory_is_not_decided is); kept = λ is. absurd (memory_is_not_decided is) }
