-- That a list of texts of ASCII can be written and read.
use Rattle.std.proofs.Common.{◌≤◌, List, [], ◌∷◌, ◌++◌, arith}
use Rattle.std.specs.List.{AllByRecursion}
use Rattle.serde_json.specs.Data.{Data, array, boolean, items_depth, null, number, object, string}
use Rattle.serde_json.specs.View.{items_of}
use Rattle.qa_convert.specs.OwnKeys.{IsText}
use Rattle.qa_format.specs.format.Simple.{AreSimple, IsKept}

are_simple : (ds : List Data) → AllByRecursion IsText ds → AreSimple (items_of ds)
are_simple [] all = tt
are_simple (string s ∷ ds) all = (all.0, are_simple ds all.1)
are_simple (null ∷ ds) all = absurd all.0
are_simple (boolean b ∷ ds) all = absurd all.0
are_simple (number n ∷ ds) all = absurd all.0
are_simple (array es ∷ ds) all = absurd all.0
are_simple (object ms ∷ ds) all = absurd all.0

are_shallow : (ds : List Data) → AllByRecursion IsText ds → items_depth (items_of ds) ≤ 1
are_shallow [] all = omega arith
are_shallow (string s ∷ ds) all = omega (arith, are_shallow ds all.1)
are_shallow (null ∷ ds) all = absurd all.0
are_shallow (boolean b ∷ ds) all = absurd all.0
are_shallow (number n ∷ ds) all = absurd all.0
are_shallow (array es ∷ ds) all = absurd all.0
are_shallow (object ms ∷ ds) all = absurd all.0

pub texts_are_kept : (ds : List Data) → AllByRecursion IsText ds → IsKept (array (items_of ds))
texts_are_kept ds all = record { simple = are_simple ds all; shallow = omega (arith, are_shallow ds all) }

pub text_more : (ds : List Data) (d : Data) → AllByRecursion IsText ds → IsText d → AllByRecursion IsText (ds ++ d ∷ [])
text_more [] d all one = (one, tt)
text_more (e ∷ ds) d all one = (all.0, text_more ds d all.1 one)
