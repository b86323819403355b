-- Events that go on one after another.
use Rattle.std.proofs.Common.{◌≡◌, ◌∙◌, ◌+◌, ◌++◌, ℕ, List, [], ◌∷◌, Bool, append-nil, append_assoc, arith, sym, ap, flat_map, subst}
use Rattle.std.proofs.lemmas.Grind.{flat_map-append}
use Rattle.qa_convert.proofs.GroupTold.{both_tell}
use Rattle.qa_convert.proofs.Grouped.{gathers_then}
use Rattle.qa_convert.proofs.Ordered.{count_append, told_append}
use Rattle.qa_convert.proofs.Passed.{passes_none}
use Rattle.qa_convert.proofs.Keyed.{rules_then}
use Rattle.qa_convert.specs.GroupLines.{TellsOf}
use Rattle.qa_convert.specs.Groups.{Gathers, Held}
use Rattle.qa_convert.specs.Orders.{Follows, count_of, is_lost, is_received, is_sent, told}
use Rattle.qa_convert.specs.Passing.{Passes, counted}
use Rattle.qa_convert.specs.Rules.{Rules, rules_after}
use Rattle.qa_convert.specs.Taking.{Goes, Progress}
use Rattle.qa_convert.specs.Telling.{Told}
use Rattle.qa_convert.specs.declared.event.LoggedEvent.{LoggedEvent}
use Rattle.qa_convert.specs.declared.event.Said.{Said}
use Rattle.qa_convert.specs.declared.groups.Group.{Group}

-- ---- what is passed on, and then more

both_told : (kind : Said → Bool) (a b c o p es fs : List LoggedEvent) → told kind (o ++ b) ≡ told kind a ++ told kind es → told kind (p ++ c) ≡ told kind b ++ told kind fs
    → told kind ((o ++ p) ++ c) ≡ told kind a ++ told kind (es ++ fs)
both_told kind a b c o p es fs one two =
    ap (told kind) (append_assoc o p c)
    ∙ told_append kind o (p ++ c)
    ∙ ap (λ xs. told kind o ++ xs) two
    ∙ sym (append_assoc (told kind o) (told kind b) (told kind fs))
    ∙ ap (λ xs. xs ++ told kind fs) (sym (told_append kind o b) ∙ one)
    ∙ append_assoc (told kind a) (told kind es) (told kind fs)
    ∙ ap (λ xs. told kind a ++ xs) (sym (told_append kind es fs))

both_sum : (a b c o p es fs ob pc op all more : ℕ) → ob ≡ a + es → pc ≡ b + fs → ob ≡ o + b → pc ≡ p + c → op ≡ o + p → all ≡ op + c → more ≡ es + fs → all ≡ a + more
both_sum a b c o p es fs ob pc op all more one two three four five six seven = omega (one, two, three, four, five, six, seven, arith)

both_count : (test : Said → Bool) (a b c o p es fs : List LoggedEvent) → count_of test (o ++ b) ≡ count_of test a + count_of test es
    → count_of test (p ++ c) ≡ count_of test b + count_of test fs → count_of test ((o ++ p) ++ c) ≡ count_of test a + count_of test (es ++ fs)
both_count test a b c o p es fs one two =
    both_sum _ _ _ _ _ _ _ _ _ _ _ _ one two (count_append test o b) (count_append test p c) (count_append test o p) (count_append test (o ++ p) c) (count_append test es fs)

both_follow : (a b c o p es fs : List LoggedEvent) → Follows a es (o ++ b) → Follows b fs (p ++ c) → Follows a (es ++ fs) ((o ++ p) ++ c)
both_follow a b c o p es fs one two = record {
  sent = both_told is_sent a b c o p es fs one.sent two.sent;
  received = both_told is_received a b c o p es fs one.received two.received;
  lost = both_told is_lost a b c o p es fs one.lost two.lost;
  kept = λ test of. both_count test a b c o p es fs (one.kept test of) (two.kept test of);
}

gathers_behind : (front : List Group) (old new : Held) (more : List LoggedEvent) (out out' : List Group) → Gathers old more new out out'
    → Gathers old more new (front ++ out) (front ++ out')
gathers_behind front old new more out out' is = record {
  ended = is.ended;
  handed = ap (λ gs. front ++ gs) is.handed ∙ sym (append_assoc front out is.ended);
  groups = is.groups;
  unclosed = is.unclosed;
  order = is.order;
  kept = is.kept;
}

pub passes_then : (k k' k'' : Rules) (w w' w'' : List LoggedEvent) (h h' h'' : Held) (r r' r'' : List Group) (t t' t'' : Told) (es fs : List LoggedEvent)
    → Passes k w h r t es k' w' h' r' t' → Passes k' w' h' r' t' fs k'' w'' h'' r'' t'' → Passes k w h r t (es ++ fs) k'' w'' h'' r'' t''
passes_then k k' k'' w w' w'' h h' h'' r r' r'' t t' t'' es fs one two =
    let o = one.ordered in
    let p = two.ordered in
    let gs = one.written in
    let hs = two.written in
    record {
      ordered = o ++ p;
      follows = both_follow w w' w'' o p es fs one.follows two.follows;
      written = gs ++ hs;
      gathers = rw (append_assoc gs hs r'') (gathers_then h h' h'' o p r (gs ++ r') (gs ++ (hs ++ r'')) one.gathers (gathers_behind gs h' h'' p r' (hs ++ r'') two.gathers));
      told = both_tell k gs hs t t' t'' one.told (subst (λ (x : Rules). TellsOf x hs t' t'') one.rules two.told);
      rules = two.rules ∙ ap (rules_after hs) one.rules ∙ sym (rules_then gs hs k);
    }

-- ---- events that go on

pub goes_none : (old new : Progress) (before after : Told) → new.head ≡ old.head → new.retry ≡ old.retry → new.waits ≡ old.waits → new.held ≡ old.held → new.ready ≡ old.ready
    → new.rules ≡ old.rules → after ≡ before → Goes [] old before new after
goes_none old new before after head retry waits held ready rules same = record {
  head = head;
  retry = retry;
  passes = rw (waits, held, ready, rules) (passes_none old.rules old.waits old.held old.ready before after same);
}

pub goes_one : (e : LoggedEvent) (old : Progress) (before : Told) (new : Progress) (after : Told) → new.head ≡ old.head → new.retry ≡ old.retry
    → Passes old.rules old.waits old.held old.ready before (counted old.retry e) new.rules new.waits new.held new.ready after → Goes (e ∷ []) old before new after
goes_one e old before new after head retry passes = record {
  head = head;
  retry = retry;
  passes = rw (append-nil (counted old.retry e)) passes;
}

pub goes_then : (es fs : List LoggedEvent) (a b c : Progress) (t t' t'' : Told) → Goes es a t b t' → Goes fs b t' c t'' → Goes (es ++ fs) a t c t''
goes_then es fs a b c t t' t'' one two =
    let again = rw one.retry at two.passes in
    record {
      head = two.head ∙ one.head;
      retry = two.retry ∙ one.retry;
      passes = rw (flat_map-append (counted a.retry) es fs)
          (passes_then a.rules b.rules c.rules a.waits b.waits c.waits a.held b.held c.held a.ready b.ready c.ready t t' t'' (flat_map (counted a.retry) es) (flat_map (counted a.retry) fs) one.passes again);
    }
