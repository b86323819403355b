-- The state of congestion control, behind events and behind groups.
use Rattle.std.proofs.Common.{◌≡◌, ◌≤◌, ◌∙◌, ◌++◌, ◌-◌, ℕ, Bool, List, [], ◌∷◌, ap, drop, length, sym, take}
use Rattle.std.proofs.Math.Seq.{take-length}
use Rattle.std.proofs.lemmas.Grind.{fold-append}
use Rattle.qa_convert.proofs.Losses.{front_is}
use Rattle.qa_convert.specs.Rules.{Rules, rules_stated}
use Rattle.qa_convert.specs.States.{decoding_after, state_after, state_by, stated, stated_in}
use Rattle.qa_convert.specs.declared.decoding.Decoding.{Decoding}
use Rattle.qa_convert.specs.declared.event.LoggedEvent.{LoggedEvent}
use Rattle.qa_convert.specs.declared.groups.Group.{Group}

pub state_both : (xs ys : List LoggedEvent) (before : Bool) → state_after (xs ++ ys) before ≡ state_after ys (state_after xs before)
state_both xs ys before = fold-append (λ (is : Bool) (e : LoggedEvent). state_by e.said is) before xs ys

pub rules_both : (xs ys : List LoggedEvent) (r : Rules) → rules_stated ys (rules_stated xs r) ≡ rules_stated (xs ++ ys) r
rules_both xs ys r = ap (λ (is : Bool). record r { decoding = record r.decoding { is_limited = is } }) (sym (state_both xs ys r.decoding.is_limited))

-- the events up to a place, and then those up to a later one
pub rules_part : (i j : ℕ) (es : List LoggedEvent) (r : Rules) → i ≤ j → rules_stated (take (j - i) (drop i es)) (rules_stated (take i es) r) ≡ rules_stated (take j es) r
rules_part i j es r order = rules_both (take i es) (take (j - i) (drop i es)) r ∙ ap (λ xs. rules_stated xs r) (front_is i j es order)

-- and then all others
pub rules_all : (i : ℕ) (es : List LoggedEvent) (r : Rules) → i ≤ length es → rules_stated (take (length es - i) (drop i es)) (rules_stated (take i es) r) ≡ rules_stated es r
rules_all i es r order = rules_part i (length es) es r order ∙ ap (λ xs. rules_stated xs r) (take-length es)

pub decoding_then : (gs hs : List Group) (d : Decoding) → decoding_after (gs ++ hs) d ≡ decoding_after hs (decoding_after gs d)
decoding_then gs hs d = fold-append (λ (before : Decoding) (g : Group). stated_in g.about g.beside.items before) d gs hs
