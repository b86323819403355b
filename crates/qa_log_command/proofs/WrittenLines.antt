-- Lines that are written one after another, and what a failure leaves of them.
use Rattle.std.proofs.Common.{◌≡◌, ◌∙◌, ◌⊎◌, inl, inr, ℕ, Bool, true, false, List, [], ◌∷◌, ◌++◌, Option, Result, Ok, Err, refl, sym, ap, subst, append-nil}
use Rattle.std.specs.Prelude.{IsErrAnd}
use Rattle.std.proofs.lemmas.Grind.{flat_map-append}
use Rattle.std.proofs.lemmas.List.{map-append}
use Rattle.std.specs.List.{AllByRecursion, concat}
use Rattle.std.proofs.KnownBytes.{Appends-nil, Appends-trans}
use Rattle.qa_check.proofs.Writing.{begins_behind}
use Rattle.qa_check.specs.Failures.{failures_after}
use Rattle.qa_commands.specs.Writes.{Writes}
use Rattle.qa_convert.specs.OwnKeys.{AreEventLines, IsHeaderLine, IsWritten, IsWrittenEvent, Noted, noted, texts_of}
use Rattle.qa_format.specs.format.Lines.{ended, with_lf}
use Rattle.qa_log_lines.proofs.Going.{concat_one}
use Rattle.qa_log_command.specs.Failing.{ending_of, ending_of_log, fails_to_write, is_write}
use Rattle.qa_log_command.specs.Written.{AreLines, Leaves, Stream, WritesLines}
use Rattle.qa_log_command.specs.declared.ending.Ending.{Ending}
use Rattle.qa_log_command.specs.declared.ending.Ending.TheVariants as endings
use Rattle.qa_log_command.specs.declared.failure.Failure.{Failure}
use Rattle.qa_log_command.specs.declared.failure.Failure.TheVariants.{Log, Write}
use Rattle.qa_log_lines.specs.declared.failure.LogFailure.{LogFailure}
use Rattle.qa_log_lines.specs.declared.failure.LogFailure.TheVariants as logs

-- ---- lines

all_events : (ns : List Noted) → AllByRecursion IsWrittenEvent ns → AllByRecursion IsWritten ns
all_events [] all = tt
all_events (n ∷ ns) all = (all.0.1, all_events ns all.1)

all_more : (ns ms : List Noted) → AllByRecursion IsWritten ns → AllByRecursion IsWritten ms → AllByRecursion IsWritten (ns ++ ms)
all_more [] ms all more = more
all_more (n ∷ ns) ms all more = (all.0, all_more ns ms all.1 more)

ended_more : (ns ms : List Noted) → ended (texts_of (ns ++ ms)) ≡ ended (texts_of ns) ++ ended (texts_of ms)
ended_more ns ms =
    ap ended (map-append (λ n. noted n.0 n.1) ns ms) ∙ flat_map-append with_lf (texts_of ns) (texts_of ms)

-- what a trace returns as its text
pub text_is_lines : (bytes : List ℕ) → IsHeaderLine bytes ⊎ AreEventLines bytes → AreLines bytes
text_is_lines bytes (inl (n, of_header, written, is)) =
    (n ∷ [], (written, tt), is ∙ sym (append-nil (with_lf (noted n.0 n.1))))
text_is_lines bytes (inr (ns, all, is)) = (ns, all_events ns all, is)

lines_more : (front rest : List ℕ) → AreLines front → AreLines rest → AreLines (front ++ rest)
lines_more front rest (ns, all, is) (ms, more, are) =
    (ns ++ ms, all_more ns ms all more, ap (λ k. k ++ rest) is ∙ ap (λ k. ended (texts_of ns) ++ k) are ∙ sym (ended_more ns ms))

-- ---- lines that were written

wrote_nothing : (a : Option (List ℕ)) (n : ℕ) → Writes false a a n n []
wrote_nothing a n = record { wrote = Appends-nil a; counted = refl }

-- a text after another
pub wrote_more : (failed : Bool) (a b c : Option (List ℕ)) (n n1 n2 : ℕ) (front rest : List ℕ) → Writes false a b n n1 front → Writes failed b c n1 n2 rest
    → Writes failed a c n n2 (front ++ rest)
wrote_more false a b c n n1 n2 front rest first then = record {
  wrote = Appends-trans a b c front rest first.wrote then.wrote;
  counted = then.counted ∙ first.counted;
}
wrote_more true a b c n n1 n2 front rest first then = record {
  wrote = begins_behind a b c front rest first.wrote then.wrote;
  counted = then.counted ∙ ap (failures_after true) first.counted;
}

pub wrote_on : (a b c : Option (List ℕ)) (n n1 n2 : ℕ) (parts : List (List ℕ)) (lines more : List ℕ) → Writes false a b n n1 (concat parts ++ lines) → Writes false b c n1 n2 more → Writes false a c n n2 (concat (parts ++ lines ∷ []) ++ more)
wrote_on a b c n n1 n2 parts lines more first then =
    rw (concat_one parts lines) (wrote_more false a b c n n1 n2 (concat parts ++ lines) more first then)

pub wrote_end : (a b c : Option (List ℕ)) (n n1 n2 : ℕ) (lines more : List ℕ) → more ≡ [] → Writes false a b n n1 lines → Writes false b c n1 n2 more → Writes false a c n n2 lines
wrote_end a b c n n1 n2 lines more none first then =
    subst (Writes false a c n n2) (ap (λ k. lines ++ k) none ∙ append-nil lines) (wrote_more false a b c n n1 n2 lines more first then)

pub no_lines : (s : Stream) → WritesLines false s s
no_lines s = ([], ([], tt, refl), wrote_nothing s.0 s.1)

pub more_lines : (failed : Bool) (a b c : Stream) → WritesLines false a b → WritesLines failed b c → WritesLines failed a c
more_lines failed a b c (front, front_lines, first) (rest, rest_lines, then) =
    (front ++ rest, lines_more front rest front_lines rest_lines, wrote_more failed a.0 b.0 c.0 a.1 b.1 c.1 front rest first then)

-- ---- what `?` hands on

-- whether it fails to write is by the failure that is handed on
pub fails_as : {A : Type 0} (failed : Bool) (r : Result A Failure) → IsErrAnd r (λ f. is_write f ≡ failed) → fails_to_write r ≡ failed
fails_as failed (Ok a) is = absurd is
fails_as failed (Err f) is = is

-- a failure that is handed on as it is
pub fails_like : {A : Type 0} (r : Result A Failure) (failure : Failure) → IsErrAnd r (λ f. f ≡ failure) → fails_to_write r ≡ is_write failure
fails_like (Ok a) failure same = absurd same
fails_like (Err f) failure same = ap is_write same

-- ---- how the program ends

failed_leaves : (failed : Bool) (old new : Stream) → WritesLines failed old new → Leaves endings.Failed old new
failed_leaves failed old new (text, lines, wrote) = (failed, (text, wrote))

by_log : (failure : LogFailure) (old new : Stream) → WritesLines false old new → Leaves (ending_of_log failure) old new
by_log (logs.Open e) old new wrote = failed_leaves false old new wrote
by_log (logs.Read e) old new wrote = failed_leaves false old new wrote
by_log logs.TooLong old new wrote = failed_leaves false old new wrote
by_log (logs.Log fault) old new wrote = wrote
by_log logs.OutOfMemory old new wrote = failed_leaves false old new wrote

by_failure : (failure : Failure) (old new : Stream) → WritesLines (is_write failure) old new → Leaves (ending_of failure) old new
by_failure (Log interruption) old new wrote = by_log interruption.failure old new wrote
by_failure (Write e) old new wrote = failed_leaves true old new wrote

-- it stopped by this failure, which decides how it ends, or for want of memory to say so
pub stopped_leaves : (failure : Failure) (ending : Ending) (old new : Stream) → (ending ≡ endings.Failed) ⊎ (ending ≡ ending_of failure)
    → WritesLines (is_write failure) old new → Leaves ending old new
stopped_leaves failure ending old new (inl is) wrote = rw is (failed_leaves (is_write failure) old new wrote)
stopped_leaves failure ending old new (inr is) wrote = rw is (by_failure failure old new wrote)

-- the whole trace was written, and what is said of it or not
pub traced_leaves : (ending : Ending) (old new : Stream) → (ending ≡ endings.Failed) ⊎ (ending ≡ endings.Written)
    → WritesLines false old new → Leaves ending old new
traced_leaves ending old new (inl is) wrote = rw is (failed_leaves false old new wrote)
traced_leaves ending old new (inr is) (text, lines, wrote) = rw is (text, wrote)
