-- What events tell, put one behind another.
use Rattle.std.proofs.Common.{◌≡◌, ◌∙◌, ◌+◌, ℕ, List, [], ◌∷◌, ◌++◌, Bool, true, false, cond, refl, sym, ap, ap₂, append-nil, arith, length}
use Rattle.std.proofs.lemmas.List.{append_assoc, length-append}
use Rattle.qa_convert.specs.Orders.{Follows, OfKept, Waits, count_of, is_lost, is_received, is_sent, told}
use Rattle.qa_convert.specs.declared.event.LoggedEvent.{LoggedEvent}
use Rattle.qa_convert.specs.declared.event.Report.{Report}
use Rattle.qa_convert.specs.declared.event.Said.{Said}
use Rattle.qa_convert.specs.declared.event.Said.TheVariants as said

told_if : (b : Bool) (s : Said) (xs ys : List Said) → cond b (s ∷ (xs ++ ys)) (xs ++ ys) ≡ cond b (s ∷ xs) xs ++ ys
told_if true s xs ys = refl
told_if false s xs ys = refl

pub told_append : (kind : Said → Bool) (es fs : List LoggedEvent) → told kind (es ++ fs) ≡ told kind es ++ told kind fs
told_append kind [] fs = refl
told_append kind (e ∷ es) fs =
    ap (λ rest. cond (kind e.said) (e.said ∷ rest) rest) (told_append kind es fs)
    ∙ told_if (kind e.said) e.said (told kind es) (told kind fs)

-- ---- how many

pub count_append : (test : Said → Bool) (es fs : List LoggedEvent) → count_of test (es ++ fs) ≡ count_of test es + count_of test fs
count_append test es fs = ap length (told_append test es fs) ∙ length-append (told test es) (told test fs)

front_sum : (all eh o x h oh : ℕ) → all ≡ eh + h → eh ≡ o + x → oh ≡ o + h → all ≡ oh + x
front_sum all eh o x h oh one two three = omega (one, two, three, arith)

-- an event in front of what is held is one more
count_first : (test : Said → Bool) (out held : List LoggedEvent) (e : LoggedEvent) → count_of test ((out ++ e ∷ []) ++ held) ≡ count_of test (out ++ held) + count_of test (e ∷ [])
count_first test out held e =
    front_sum _ _ _ _ _ _ (count_append test (out ++ e ∷ []) held) (count_append test out (e ∷ [])) (count_append test out held)

plus_none : (n : ℕ) → n ≡ n + 0
plus_none n = omega arith

then_sum : (old new more all : ℕ) → new ≡ old + 0 → all ≡ new + more → all ≡ old + more
then_sum old new more all one two = omega (one, two, arith)

kept_sum : (old new held oh nh : ℕ) → new ≡ old + 0 → oh ≡ old + held → nh ≡ new + held → nh ≡ oh + 0
kept_sum old new held oh nh one two three = omega (one, two, three, arith)

more_none : (n all x : ℕ) → all ≡ n + x → x ≡ 0 → all ≡ n + 0
more_none n all x one two = omega (one, two, arith)

same_sum : (n x : ℕ) → x ≡ 0 → n ≡ n + x
same_sum n x is = omega (is, arith)

-- an event that a test does not count
abbrev IsUnkept : LoggedEvent → Type 0
IsUnkept e = (test : Said → Bool) → OfKept test → count_of test (e ∷ []) ≡ 0

none_counted : (test : Said → Bool) (e : LoggedEvent) → test e.said ≡ false → count_of test (e ∷ []) ≡ 0
none_counted test e is = ap (λ b. length (cond b (e.said ∷ []) [])) is

report_unkept : (e : LoggedEvent) (r : Report) → e.said ≡ said.Report r → IsUnkept e
report_unkept e r is test of = none_counted test e (ap test is ∙ of.report r)

timer_unkept : (e : LoggedEvent) → e.said ≡ said.TimerSet → IsUnkept e
timer_unkept e is test of = none_counted test e (ap test is ∙ of.timer)

-- ---- what follows

-- what is put behind follows
pub behind_follows : (es fs : List LoggedEvent) → Follows es fs (es ++ fs)
behind_follows es fs = record {
  sent = told_append is_sent es fs;
  received = told_append is_received es fs;
  lost = told_append is_lost es fs;
  kept = λ test of. count_append test es fs;
}

-- the same with what waits for it, once that is let go
pub let_go_follows : (out held es : List LoggedEvent) → Follows (out ++ held) es ((out ++ held) ++ es)
let_go_follows out held es = behind_follows (out ++ held) es

swapped : (kind : Said → Bool) (out held : List LoggedEvent) (e : LoggedEvent) → told kind held ≡ []
    → told kind ((out ++ e ∷ []) ++ held) ≡ told kind (out ++ held) ++ told kind (e ∷ [])
swapped kind out held e none =
    told_append kind (out ++ e ∷ []) held
    ∙ ap₂ (λ xs ys. xs ++ ys) (told_append kind out (e ∷ [])) none
    ∙ append-nil (told kind out ++ told kind (e ∷ []))
    ∙ ap (λ xs. xs ++ told kind (e ∷ [])) (sym (told_append kind out held ∙ ap (λ xs. told kind out ++ xs) none ∙ append-nil (told kind out)))

passed : (kind : Said → Bool) (out held : List LoggedEvent) (e : LoggedEvent) → told kind (e ∷ []) ≡ []
    → told kind ((out ++ e ∷ []) ++ held) ≡ told kind (out ++ held) ++ told kind (e ∷ [])
passed kind out held e none =
    told_append kind (out ++ e ∷ []) held
    ∙ ap (λ xs. xs ++ told kind held) (told_append kind out (e ∷ []) ∙ ap (λ xs. told kind out ++ xs) none ∙ append-nil (told kind out))
    ∙ sym (told_append kind out held)
    ∙ sym (ap (λ xs. told kind (out ++ held) ++ xs) none ∙ append-nil (told kind (out ++ held)))

-- an event that is no loss goes in front of what is held
pub first_follows : (timed : Bool) (out held : List LoggedEvent) (e : LoggedEvent) → Waits timed held → told is_lost (e ∷ []) ≡ []
    → Follows (out ++ held) (e ∷ []) ((out ++ e ∷ []) ++ held)
first_follows timed out held e waits none = record {
  sent = swapped is_sent out held e waits.sent;
  received = swapped is_received out held e waits.received;
  lost = passed is_lost out held e none;
  kept = λ test of. count_first test out held e;
}

-- any event goes behind what is held
pub last_follows : (out held : List LoggedEvent) (e : LoggedEvent) → Follows (out ++ held) (e ∷ []) (out ++ (held ++ e ∷ []))
last_follows out held e = record {
  sent = ap (told is_sent) (sym (append_assoc out held (e ∷ []))) ∙ told_append is_sent (out ++ held) (e ∷ []);
  received = ap (told is_received) (sym (append_assoc out held (e ∷ []))) ∙ told_append is_received (out ++ held) (e ∷ []);
  lost = ap (told is_lost) (sym (append_assoc out held (e ∷ []))) ∙ told_append is_lost (out ++ held) (e ∷ []);
  kept = λ test of. ap (count_of test) (sym (append_assoc out held (e ∷ []))) ∙ count_append test (out ++ held) (e ∷ []);
}

-- what waits, with one more that is no packet
pub waits_more : (held : List LoggedEvent) (e : LoggedEvent) → told is_sent held ≡ [] → told is_received held ≡ [] → told is_sent (e ∷ []) ≡ []
    → told is_received (e ∷ []) ≡ [] → Waits false (held ++ e ∷ [])
waits_more held e sent received not_sent not_received = record {
  sent = told_append is_sent held (e ∷ []) ∙ ap₂ (λ xs ys. xs ++ ys) sent not_sent;
  received = told_append is_received held (e ∷ []) ∙ ap₂ (λ xs ys. xs ++ ys) received not_received;
  timed = λ is. cc;
}

-- ---- one after another

pub same_follows : (es : List LoggedEvent) → Follows es [] es
same_follows es = record {
  sent = sym (append-nil (told is_sent es));
  received = sym (append-nil (told is_received es));
  lost = sym (append-nil (told is_lost es));
  kept = λ test of. plus_none (count_of test es);
}

then_told : (kind : Said → Bool) (olds news es cs : List LoggedEvent) → told kind news ≡ told kind olds ++ told kind []
    → told kind cs ≡ told kind news ++ told kind es → told kind cs ≡ told kind olds ++ told kind es
then_told kind olds news es cs first second = second ∙ ap (λ xs. xs ++ told kind es) (first ∙ append-nil (told kind olds))

pub then_follows : (olds news es cs : List LoggedEvent) → Follows olds [] news → Follows news es cs → Follows olds es cs
then_follows olds news es cs first second = record {
  sent = then_told is_sent olds news es cs first.sent second.sent;
  received = then_told is_received olds news es cs first.received second.received;
  lost = then_told is_lost olds news es cs first.lost second.lost;
  kept = λ test of. then_sum (count_of test olds) (count_of test news) (count_of test es) (count_of test cs) (first.kept test of) (second.kept test of);
}

kept_told : (kind : Said → Bool) (olds news held : List LoggedEvent) → told kind news ≡ told kind olds ++ told kind []
    → told kind (news ++ held) ≡ told kind (olds ++ held) ++ told kind []
kept_told kind olds news held is =
    told_append kind news held ∙ ap (λ xs. xs ++ told kind held) (is ∙ append-nil (told kind olds)) ∙ sym (told_append kind olds held)
    ∙ sym (append-nil (told kind (olds ++ held)))

pub kept_follows : (olds news held : List LoggedEvent) → Follows olds [] news → Follows (olds ++ held) [] (news ++ held)
kept_follows olds news held is = record {
  sent = kept_told is_sent olds news held is.sent;
  received = kept_told is_received olds news held is.received;
  lost = kept_told is_lost olds news held is.lost;
  kept = λ test of.
      kept_sum (count_of test olds) (count_of test news) (count_of test held) (count_of test (olds ++ held)) (count_of test (news ++ held)) (is.kept test of)
      (count_append test olds held) (count_append test news held);
}

one_told : (kind : Said → Bool) (e : LoggedEvent) (s : Said) → e.said ≡ s → told kind (e ∷ []) ≡ cond (kind s) (s ∷ []) []
one_told kind e s is = ap (λ s. cond (kind s) (s ∷ []) []) is

-- a report goes anywhere
quiet_told : (kind : Said → Bool) (es : List LoggedEvent) (e : LoggedEvent) → told kind (e ∷ []) ≡ [] → told kind (es ++ e ∷ []) ≡ told kind es ++ told kind []
quiet_told kind es e none = told_append kind es (e ∷ []) ∙ ap (λ xs. told kind es ++ xs) none

pub quiet_follows : (es : List LoggedEvent) (e : LoggedEvent) (r : Report) → e.said ≡ said.Report r → Follows es [] (es ++ e ∷ [])
quiet_follows es e r is = record {
  sent = quiet_told is_sent es e (one_told is_sent e (said.Report r) is);
  received = quiet_told is_received es e (one_told is_received e (said.Report r) is);
  lost = quiet_told is_lost es e (one_told is_lost e (said.Report r) is);
  kept = λ test of. more_none (count_of test es) (count_of test (es ++ e ∷ [])) (count_of test (e ∷ [])) (count_append test es (e ∷ [])) (report_unkept e r is test of);
}

-- an event that is not kept
left_out : (es : List LoggedEvent) (e : LoggedEvent) → told is_sent (e ∷ []) ≡ [] → told is_received (e ∷ []) ≡ [] → told is_lost (e ∷ []) ≡ [] → IsUnkept e
    → Follows es (e ∷ []) es
left_out es e sent received lost none = record {
  sent = sym (ap (λ xs. told is_sent es ++ xs) sent ∙ append-nil (told is_sent es));
  received = sym (ap (λ xs. told is_received es ++ xs) received ∙ append-nil (told is_received es));
  lost = sym (ap (λ xs. told is_lost es ++ xs) lost ∙ append-nil (told is_lost es));
  kept = λ test of. same_sum (count_of test es) (count_of test (e ∷ [])) (none test of);
}

pub report_follows : (es : List LoggedEvent) (e : LoggedEvent) (r : Report) → e.said ≡ said.Report r → Follows es (e ∷ []) es
report_follows es e r is =
    left_out es e (one_told is_sent e (said.Report r) is) (one_told is_received e (said.Report r) is) (one_told is_lost e (said.Report r) is) (report_unkept e r is)

pub timer_follows : (es : List LoggedEvent) (e : LoggedEvent) → e.said ≡ said.TimerSet → Follows es (e ∷ []) es
timer_follows es e is =
    left_out es e (one_told is_sent e said.TimerSet is) (one_told is_received e said.TimerSet is) (one_told is_lost e said.TimerSet is) (timer_unkept e is)

-- a report of packets that were sent goes on joined with others
pub joined_follows : (olds news held : List LoggedEvent) (e : LoggedEvent) (r : Report) → e.said ≡ said.Report r → Follows olds [] news
    → Follows (olds ++ held) (e ∷ []) (news ++ held)
joined_follows olds news held e r is first =
    then_follows (olds ++ held) (news ++ held) (e ∷ []) (news ++ held) (kept_follows olds news held first) (report_follows (news ++ held) e r is)

-- what is held was let go, and then an event came
pub pushed_follows : (olds news : List LoggedEvent) (e : LoggedEvent) → Follows olds [] news → Follows olds (e ∷ []) ((news ++ e ∷ []) ++ [])
pushed_follows olds news e first = rw (append-nil (news ++ e ∷ [])) (then_follows olds news (e ∷ []) (news ++ e ∷ []) first (behind_follows news (e ∷ [])))

told_said : (kind : Said → Bool) (e f : LoggedEvent) → e.said ≡ f.said → told kind (e ∷ []) ≡ told kind (f ∷ [])
told_said kind e f same = ap (λ s. cond (kind s) (s ∷ []) []) same

-- a packet that came, perhaps at an earlier time, in front of what is held
pub came_follows : (timed : Bool) (olds news held : List LoggedEvent) (e f : LoggedEvent) → Waits timed held → Follows olds [] news → told is_lost (e ∷ []) ≡ []
    → f.said ≡ e.said → Follows (olds ++ held) (e ∷ []) (((news ++ f ∷ []) ++ held) ++ [])
came_follows timed olds news held e f waits first none same =
    let moved = first_follows timed news held f waits (told_said is_lost f e same ∙ none) in
    let all = then_follows (olds ++ held) (news ++ held) (f ∷ []) ((news ++ f ∷ []) ++ held) (kept_follows olds news held first) moved in
    rw (append-nil ((news ++ f ∷ []) ++ held)) (record {
      sent = all.sent ∙ ap (λ xs. told is_sent (olds ++ held) ++ xs) (told_said is_sent f e same);
      received = all.received ∙ ap (λ xs. told is_received (olds ++ held) ++ xs) (told_said is_received f e same);
      lost = all.lost ∙ ap (λ xs. told is_lost (olds ++ held) ++ xs) (told_said is_lost f e same);
      kept = λ test of. all.kept test of ∙ ap (λ xs. count_of test (olds ++ held) + length xs) (told_said test f e same);
    })

-- an event that was caused by no packet that is still to come
pub other_follows : (timed : Bool) (out held : List LoggedEvent) (e : LoggedEvent) → Waits timed held → (timed ≡ false → told is_lost (e ∷ []) ≡ [])
    → Follows (out ++ held) (e ∷ []) ((out ++ e ∷ []) ++ held)
other_follows true out held e waits none = rw (waits.timed refl) (pushed_follows (out ++ []) out e (rw (append-nil out) (same_follows out)))
other_follows false out held e waits none = first_follows false out held e waits (none refl)

pub none_told : (kind : Said → Bool) (held : List LoggedEvent) (e : LoggedEvent) → told kind (e ∷ []) ≡ [] → told kind held ≡ [] → told kind (held ++ e ∷ []) ≡ []
none_told kind held e one all = told_append kind held (e ∷ []) ∙ ap₂ (λ xs ys. xs ++ ys) all one
