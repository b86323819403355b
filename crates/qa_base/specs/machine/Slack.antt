-- Headers that differ by the slack of reported values alone.
--
-- `c` are the settings of the header.
use Rattle.std.specs.Prelude.{ℕ}
use Rattle.qa_base.specs.values.Settings.{Settings}

-- the header with these slacks of reported times and bytes, and all else as it is
abbrev pub with_slacks : Settings → ℕ → ℕ → Settings
with_slacks c slack_us slack_bytes =
    record c {
      options = record (c.options) {
        report_slack_us = slack_us;
        report_slack_bytes = slack_bytes;
      };
    }
