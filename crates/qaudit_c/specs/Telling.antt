-- What C is told of a verdict, and of what it rests on.
use Rattle.std.specs.Prelude.{ℕ, min, ◌-◌, ◌^◌, true, false, List, map, Option, Some, None, is_some}
use Rattle.std.specs.Prelude.{unwrap_or}
use Rattle.qa_base.specs.declared.totals.Totals.{Totals}
use Rattle.qa_base.specs.values.Names.{rule_number}
use Rattle.qa_format.specs.declared.verdict.Verdict.{Verdict}
use Rattle.qa_format.specs.declared.verdict.Verdict.TheVariants.{Accepted, Refused, Unreadable}
use Rattle.qa_format.specs.format.Faults.{fault_number, key_of}
use Rattle.qa_format.specs.format.Reading.{reading}
use Rattle.qa_format.specs.verdicts.Verdict.{strict}
use Rattle.qa_violations.specs.allowed.Items.{allowances_behind}
use Rattle.qa_violations.specs.allowed.Lines.{each}
use Rattle.qa_violations.specs.around.Around.{outcome_by}
use Rattle.qa_violations.specs.declared.allowed.items.Allowance.{Allowance}
use Rattle.qa_why.specs.Why.{good_lines}
use Rattle.qaudit_c.specs.declared.telling.Told.{Told}
use Rattle.qaudit_c.specs.declared.telling.ToldAllowance.{ToldAllowance}
use Rattle.qaudit_c.specs.declared.telling.ToldTotals.{ToldTotals}
use Rattle.qaudit_c.specs.Numbers.{rule_subject, subject_number}

abbrev pub told_totals : Totals → ToldTotals
told_totals t = record {
  events = t.events;
  window = t.window;
  ssthresh = unwrap_or t.ssthresh 0;
  bytes_in_flight = t.bytes_in_flight;
  latest_rtt = t.latest_rtt;
  min_rtt = t.min_rtt;
  smoothed_rtt = t.smoothed_rtt;
  rttvar = t.rttvar;
  pto_count = t.pto_count;
  owed = t.owed;
  has_ssthresh = is_some t.ssthresh;
}

abbrev pub no_totals : ToldTotals
no_totals = record {
  events = 0;
  window = 0;
  ssthresh = 0;
  bytes_in_flight = 0;
  latest_rtt = 0;
  min_rtt = 0;
  smoothed_rtt = 0;
  rttvar = 0;
  pto_count = 0;
  owed = 0;
  has_ssthresh = false;
}

abbrev pub told_totals_if : Option Totals → ToldTotals
told_totals_if None = no_totals
told_totals_if (Some t) = told_totals t

-- the kind (1 accepted, 2 refused, 3 unreadable), the number of the rule or the fault, the line,
-- the number of the key that it is about, and the totals; 0 where there is none
abbrev pub told : Verdict → Told
told (Accepted t) =
    record { kind = 1; code = 0; line = 0; subject = 0; totals = told_totals t; has_totals = true }
told (Refused n r t) =
    record {
      kind = 2;
      code = rule_number r;
      line = n;
      subject = subject_number (rule_subject r);
      totals = told_totals t;
      has_totals = true;
    }
told (Unreadable n f t) =
    record {
      kind = 3;
      code = fault_number f;
      line = n;
      subject = subject_number (key_of f);
      totals = told_totals_if t;
      has_totals = is_some t;
    }

-- ---- what the header allowed

-- an amount in 64 bits: the most that they hold, where it is more; 0 where there is none
abbrev pub in_word : Option ℕ → ℕ
in_word None = 0
in_word (Some n) = min n (2 ^ 64 - 1)

abbrev pub told_allowance : Allowance → ToldAllowance
told_allowance a = record {
  count = a.row.count;
  first = a.row.first;
  last = a.row.last;
  greatest = in_word a.row.greatest;
  limit = in_word a.limit;
  rule = rule_number a.row.rule;
  subject = subject_number (rule_subject a.row.rule);
  key = subject_number a.key;
  has_limit = is_some a.limit;
}

-- what an accepted verdict of these bytes rests on; nothing where it is another
abbrev pub told_allowances : List ℕ → List ToldAllowance
told_allowances bytes =
    map told_allowance
    (allowances_behind each (outcome_by bytes) (good_lines (strict reading) bytes))
