-- Texts that are written one after another.
use Rattle.std.proofs.Common.{◌≡◌, ◌∙◌, ◌+◌, ◌<◌, ◌++◌, ◌∷◌, ℕ, Bool, true, false, List, [], Option, Result, Ok, Err, length, take, drop, get_or, refl, sym, ap, append-nil, take-append-drop, subst, ◌≤◌}
use Rattle.std.specs.Prelude.{OnOk, OnErr, IfErr, flat_map, is_err}
use Rattle.std.proofs.KnownBytes.{Appends-nil, Appends-trans}
use Rattle.std.proofs.lemmas.Grind.{flat_map-append}
use Rattle.std.proofs.lemmas.List.{length_push, take_all, take_more}
use Rattle.std.specs.Io.KnownBytes.{Appends}
use Rattle.qa_check.proofs.Writing.{begins_behind, begins_longer, begins_taken}
use Rattle.qa_check.specs.Audit.{is_write_fault}
use Rattle.qa_check.specs.Failures.{failures_after}
use Rattle.qa_check.specs.declared.auditing.AuditFault.{AuditFault}
use Rattle.qa_check.specs.declared.auditing.AuditFault.TheVariants as faults
use Rattle.qa_commands.specs.Writes.{Writes}

pub wrote_nothing : (a : Option (List ℕ)) (n : ℕ) → Writes false a a n n []
wrote_nothing a n = record { wrote = Appends-nil a; counted = refl }

-- by the contract of `write_whole`
pub wrote_whole : (r : Result (Unit {0}) AuditFault) (a b : Option (List ℕ)) (n n' : ℕ) (bytes : List ℕ) → OnOk r (Appends a b bytes)
    → OnErr r ((k : ℕ) × Appends a b (take k bytes)) → n' ≡ failures_after (is_write_fault r) n → IfErr r (λ fault. fault ≡ faults.Write)
    → Writes (is_err r) a b n n' bytes
wrote_whole (Ok u) a b n n' bytes ok err count is = record { wrote = ok; counted = count }
wrote_whole (Err fault) a b n n' bytes ok err count is = record { wrote = begins_taken a b bytes err; counted = rw is at count }

-- a text behind another
pub wrote_more : (failed : Bool) (a b c : Option (List ℕ)) (n n1 n2 : ℕ) (front rest : List ℕ) → Writes false a b n n1 front → Writes failed b c n1 n2 rest
    → Writes failed a c n n2 (front ++ rest)
wrote_more false a b c n n1 n2 front rest first then = record {
  wrote = Appends-trans a b c front rest first.wrote then.wrote;
  counted = then.counted ∙ first.counted;
}
wrote_more true a b c n n1 n2 front rest first then = record {
  wrote = begins_behind a b c front rest first.wrote then.wrote;
  counted = then.counted ∙ ap (failures_after true) first.counted;
}

-- the beginning of a text that goes on
pub wrote_less : (a b : Option (List ℕ)) (n n' : ℕ) (text longer more : List ℕ) → longer ≡ text ++ more → Writes true a b n n' text → Writes true a b n n' longer
wrote_less a b n n' text longer more is begun = record {
  wrote = begins_longer a b text longer more is begun.wrote;
  counted = begun.counted;
}

-- ---- a text that is made of parts

parts_of : {X : Type 0} (f : X → List ℕ) (xs : List X) (i : ℕ) (x : X) → i < length xs → flat_map f (take (i + 1) xs) ≡ flat_map f (take i xs) ++ f (get_or xs i x)
parts_of f xs i x within =
    ap (flat_map f) (take_more xs i x within) ∙ (flat_map-append f (take i xs) (get_or xs i x ∷ []) ∙ ap (λ k. flat_map f (take i xs) ++ k) (append-nil (f (get_or xs i x))))

-- one part more
pub part_more : {X : Type 0} (f : X → List ℕ) (xs : List X) (i : ℕ) (x : X) (failed : Bool) (a b c : Option (List ℕ)) (n n1 n2 : ℕ) → i < length xs
    → Writes false a b n n1 (flat_map f (take i xs)) → Writes failed b c n1 n2 (f (get_or xs i x)) → Writes failed a c n n2 (flat_map f (take (i + 1) xs))
part_more f xs i x failed a b c n n1 n2 within first then = rw (parts_of f xs i x within) (wrote_more failed a b c n n1 n2 _ _ first then)

-- a part that was not written in full
pub part_less : {X : Type 0} (f : X → List ℕ) (xs : List X) (i : ℕ) (x : X) (a b c : Option (List ℕ)) (n n1 n2 : ℕ) → i < length xs
    → Writes false a b n n1 (flat_map f (take i xs)) → Writes true b c n1 n2 (f (get_or xs i x)) → Writes true a c n n2 (flat_map f xs)
part_less f xs i x a b c n n1 n2 within first then =
    let all : flat_map f xs ≡ flat_map f (take (i + 1) xs) ++ flat_map f (drop (i + 1) xs) =
    ap (flat_map f) (sym (take-append-drop (i + 1) xs)) ∙ flat_map-append f (take (i + 1) xs) (drop (i + 1) xs) in
    wrote_less a c n n2 (flat_map f (take (i + 1) xs)) (flat_map f xs) (flat_map f (drop (i + 1) xs)) all (part_more f xs i x true a b c n n1 n2 within first then)

-- ---- a text that is made of the items that an iterator gave

module _ {X : Type 0} (f : X → List ℕ) (xs yielded : List X) (x : X) (a b c : Option (List ℕ)) (n n1 n2 : ℕ) where
  -- one item more
  pub item_more : (length yielded < length xs) × (x ≡ get_or xs (length yielded) x) → Writes false a b n n1 (flat_map f (take (length yielded) xs))
      → Writes false b c n1 n2 (f x) → Writes false a c n n2 (flat_map f (take (length (yielded ++ x ∷ [])) xs))
  item_more turn first then =
      subst (λ k. Writes false a c n n2 (flat_map f (take k xs))) (sym (length_push yielded x))
      (part_more f xs (length yielded) x false a b c n n1 n2 turn.0 first (subst (λ y. Writes false b c n1 n2 (f y)) turn.1 then))

  -- an item that was not written in full
  pub item_less : (length yielded < length xs) × (x ≡ get_or xs (length yielded) x) → Writes false a b n n1 (flat_map f (take (length yielded) xs))
      → Writes true b c n1 n2 (f x) → Writes true a c n n2 (flat_map f xs)
  item_less turn first then = part_less f xs (length yielded) x a b c n n1 n2 turn.0 first (subst (λ y. Writes true b c n1 n2 (f y)) turn.1 then)

-- all items
pub items_all : {X : Type 0} (f : X → List ℕ) (xs yielded : List X) (a b : Option (List ℕ)) (n n' : ℕ) → length xs ≤ length yielded
    → Writes false a b n n' (flat_map f (take (length yielded) xs)) → Writes false a b n n' (flat_map f xs)
items_all f xs yielded a b n n' past all = subst (λ ys. Writes false a b n n' (flat_map f ys)) (take_all (length yielded) xs past) all
