-- What a fault or a stop says, whichever result it is in.
use Rattle.std.proofs.Common.{◌≡◌, false, Result, Ok, Err, IfOk, IfErr, OnOk, refl}
use Rattle.qa_check.specs.Audit.{is_read_fault, is_write_fault}
use Rattle.qa_check.specs.declared.auditing.AuditFault.{AuditFault}
use Rattle.qa_check.specs.declared.auditing.AuditFault.TheVariants as faults
use Rattle.qa_check.specs.declared.checker.Stop.{Stop}
use Rattle.qa_check.specs.declared.checker.Stop.TheVariants.{Decided, OutOfMemory}

-- ---- results that differ

pub ok_is_no_err : {T E : Type 0} {x : T} {e : E} → Ok x ≡ Err e → ⊥
ok_is_no_err is = cc

pub err_is_no_ok : {T E : Type 0} {x : T} {e : E} → Err e ≡ Ok x → ⊥
err_is_no_ok is = cc

-- the errors of equal results
pub error_of : {T E : Type 0} {a b : E} → ◌≡◌ {A = Result T E} (Err a) (Err b) → a ≡ b
error_of is = cc

pub stops_differ : Decided ≡ OutOfMemory → ⊥
stops_differ is = cc

pub memory_is_not_decided : {T : Type 0} → ◌≡◌ {A = Result T Stop} (Err OutOfMemory) (Err Decided) → ⊥
memory_is_not_decided is = cc

pub decided_is_not_memory : {T : Type 0} → ◌≡◌ {A = Result T Stop} (Err Decided) (Err OutOfMemory) → ⊥
decided_is_not_memory is = cc

-- what holds of an error holds of it in other words
pub if_err_weaker : {T E : Type 0} (r : Result T E) (P Q : E → Type 0) → ((e : E) → P e → Q e) → IfErr r P → IfErr r Q
if_err_weaker (Ok x) P Q more p = tt
if_err_weaker (Err e) P Q more p = more e p

-- what holds of a value, and of it alone
pub if_ok_is : {T E : Type 0} (r : Result T E) (value : T) (P : Type 0) (Q : T → Type 0) → IfOk r (λ x. x ≡ value) → OnOk r P → (P → Q value) → IfOk r Q
if_ok_is (Ok x) value P Q is p holds = rw is (holds p)
if_ok_is (Err e) value P Q is p holds = tt

-- ---- faults

pub same_read_fault : (A B : Type 0) (f : AuditFault) → is_read_fault {A = A} (Err f) ≡ is_read_fault {A = B} (Err f)
same_read_fault A B faults.Read = refl
same_read_fault A B faults.Write = refl
same_read_fault A B faults.OutOfMemory = refl

pub same_write_fault : (A B : Type 0) (f : AuditFault) → is_write_fault {A = A} (Err f) ≡ is_write_fault {A = B} (Err f)
same_write_fault A B faults.Read = refl
same_write_fault A B faults.Write = refl
same_write_fault A B faults.OutOfMemory = refl

-- where the reader did not fail the fault is not its
pub not_read : {A : Type 0} (r : Result A AuditFault) → is_read_fault r ≡ false → r ≡ Err faults.Read → ⊥
not_read (Ok x) none is = cc
not_read (Err faults.Read) none is = cc
not_read (Err faults.Write) none is = cc
not_read (Err faults.OutOfMemory) none is = cc

-- out of memory is not the writer's
pub memory_not_write : {A : Type 0} (r : Result A AuditFault) → r ≡ Err faults.OutOfMemory → r ≡ Err faults.Write → ⊥
memory_not_write r memory is = cc
