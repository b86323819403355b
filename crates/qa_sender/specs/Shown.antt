-- What a ledger holds, of its machine.
use Rattle.std.specs.Prelude.{Bool}
use Rattle.qa_sender.specs.Running.{State}
use Rattle.qa_sender.specs.declared.machine.Machine.{Machine}

abbrev pub shown : Machine → Bool → State
shown m failed = record {
  connection = m.connection;
  packets = m.packets;
  numbers = m.numbers;
  watch = m.watch;
  failed = failed;
}
