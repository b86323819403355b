use Rattle.std.proofs.Common.{◌∙◌, [], ◌++◌, ◌∷◌, refl, sym}
use Rattle.qa_commands.proofs.Endings.{lead_end, lead_go, lead_stop, led_none}
use Rattle.qa_commands.proofs.checking.check_files.Goals as goal

pub loop-name-init : goal.loop-name-init
loop-name-init g c = record { several = refl; endings = []; led = led_none _ _ _ _ _; unfailed = refl }

pub returns-then-stops : goal.returns-then-stops
returns-then-stops g c =
    lead_stop _ _ _ _ _ _ _ _ _ _ _ _ _ _ _ _ _ _ _ _ _ c.loop-name-test.true c.loop-name.invariant.led c.check_file-ended.ensures.written
    (rw c.exit_status.ensures at c.max-greatest.ensures) c.tell.ensures.1
    c.loop-name.invariant.unfailed c.check_file-ended.ensures.failures (sym c.stops.ensures ∙ c.if-stops.true)

pub loop-name-preserved : goal.loop-name-preserved
loop-name-preserved g c = record {
  several = c.loop-name.invariant.several;
  endings = c.loop-name.invariant.endings ++ c.check_file-ended.result ∷ [];
  led = lead_go _ _ _ _ _ _ _ _ _ _ _ _ _ _ _ _ _ _ c.loop-name-test.true c.loop-name.invariant.led c.check_file-ended.ensures.written
      (rw c.exit_status.ensures at c.max-greatest.ensures) c.tell.ensures.1 (sym c.stops.ensures ∙ c.if-stops.false);
  unfailed = rw (sym c.stops.ensures ∙ c.if-stops.false) at c.check_file-ended.ensures.failures ∙ c.loop-name.invariant.unfailed;
}

pub returns : goal.returns
returns g c = lead_end _ _ _ _ _ _ _ _ _ _ _ _ _ c.loop-name-test.false c.loop-name.invariant.led c.loop-name.invariant.unfailed
