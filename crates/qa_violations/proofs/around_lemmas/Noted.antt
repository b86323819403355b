-- What two clauses of a result say together.
use Rattle.std.proofs.Common.{Result, Ok, Err, OnOk}

pub on_ok_both : {T E : Type 0} (r : Result T E) (P Q R : Type 0) → OnOk r P → OnOk r Q → (P → Q → R) → OnOk r R
on_ok_both (Ok x) P Q R p q more = more p q
on_ok_both (Err e) P Q R p q more = tt
