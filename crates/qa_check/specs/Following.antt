-- What a splitter and a checker stand for to which bytes were fed.
use Rattle.std.specs.Prelude.{◌≡◌, ◌++◌, ℕ, false, List, None}
use Rattle.std.specs.List.{AllByRecursion}
use Rattle.qa_format.specs.format.Lines.{ended, IsShortLine}
use Rattle.qa_format.specs.verdicts.Verdict.{Judging, verdict, verdict_of, AreGood}
use Rattle.qa_cut.specs.Stream.{Stream}
use Rattle.qa_check.specs.Standing.{Held, Judges, by, StandsFor}

-- the lines that a checker stands for are those that an LF ends in the bytes, all good, and this
-- rest is behind them
abbrev pub FollowsBy : Judging → (List (List ℕ) → Type 0) → List ℕ → List ℕ → Type 0
FollowsBy judging Stand rest bytes =
    (ls : List (List ℕ)) × Stand ls × AreGood judging ls × AllByRecursion IsShortLine ls
    × (bytes ≡ ended ls ++ rest)

abbrev pub Follows : {L : Type 0} → Judges L → List ℕ → Held L → List ℕ → Type 0
Follows judges rest held bytes = FollowsBy (by judges) (StandsFor judges held) rest bytes

-- the checker stands for lines that have the verdict of the bytes
abbrev pub AnswersBy : Judging → (List (List ℕ) → Type 0) → List ℕ → Type 0
AnswersBy judging Stand bytes =
    (ls : List (List ℕ)) × Stand ls × (verdict_of judging ls ≡ verdict judging bytes)

abbrev pub Answers : {L : Type 0} → Judges L → Held L → List ℕ → Type 0
Answers judges held bytes =
    (held.failed ≡ false) × AnswersBy (by judges) (StandsFor judges held) bytes

-- the splitter takes the next piece
abbrev pub IsReady : Stream → Type 0
IsReady s = (s.closed ≡ false) × (s.refused ≡ None)
