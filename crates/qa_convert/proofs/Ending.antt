-- What is handed out when the log ends.
use Rattle.std.proofs.Common.{◌≡◌, ◌∙◌, inl, inr, List, [], ◌∷◌, ◌++◌, Bool, true, false, cond, IfSome, None, Option, Some, append_assoc, append-nil, refl, sym, ap}
use Rattle.std.specs.List.{AllByRecursion}
use Rattle.std.specs.Prelude.{◌&&◌, ◌||◌, option_to_list}
use Rattle.std.proofs.lemmas.Grind.{flat_map-append}
use Rattle.qa_convert.proofs.Gathered.{told_last}
use Rattle.qa_convert.proofs.Grouped.{all_append}
use Rattle.qa_convert.specs.Gathering.{HandsLast, IsLast, IsSure, Leaves, kept_events, told_by}
use Rattle.qa_convert.specs.Groups.{CloseLast, Ends, Gathers, Held, IsGroup, Keeps, KeepsAtEnd, closes, events, events_about, events_of, is_by_peer, is_by_sender, is_in_place, is_of_sent, sure}
use Rattle.qa_convert.specs.declared.event.LoggedEvent.{LoggedEvent}
use Rattle.qa_convert.specs.declared.groups.Group.{Group}
use Rattle.qa_convert.specs.declared.groups.Open.{Open}

-- ---- the last group

sure_groups : (g : Group) (left : Option Group) → is_in_place g.about ≡ true → IsSure g left → AllByRecursion IsGroup (option_to_list left)
sure_groups g None place is = tt
sure_groups g (Some k) place is = (record { about = rw is.1 place; beside = rw is.2 refl }, tt)

left_groups : (torn closed : Bool) (last left : Option Group) → IfSome last (IsLast closed) → Leaves torn closed last left → AllByRecursion IsGroup (option_to_list left)
left_groups false closed None left last is = rw is tt
left_groups false closed (Some g) left last is = rw is (last.place, tt)
left_groups true true None left last is = rw is tt
left_groups true true (Some g) left last is = rw is (last.place, tt)
left_groups true false None left last is = rw is tt
left_groups true false (Some g) left last is = sure_groups g left last.place.about is

sure_unsent : (g : Group) (left : Option Group) → is_by_sender g.about ≡ false → IsSure g left → CloseLast (option_to_list left)
sure_unsent g None unsent is = tt
sure_unsent g (Some k) unsent is = rw is.1 unsent

left_unsent : (torn closed : Bool) (last left : Option Group) → IfSome last (IsLast closed) → Leaves torn closed last left → CloseLast (option_to_list left)
left_unsent false closed None left last is = rw is tt
left_unsent false closed (Some g) left last is = rw is last.unsent
left_unsent true true None left last is = rw is tt
left_unsent true true (Some g) left last is = rw is last.unsent
left_unsent true false None left last is = rw is tt
left_unsent true false (Some g) left last is = sure_unsent g left last.unsent is

left_of_or : (a b : Bool) → (a || b) ≡ false → a ≡ false
left_of_or true b is = is
left_of_or false b is = refl

close_last : (gs : List Group) (left : Option Group) → AllByRecursion (λ (g : Group). closes g ≡ false) gs → CloseLast (option_to_list left) → CloseLast (gs ++ option_to_list left)
close_last [] left all last = last
close_last (g ∷ []) None all last = left_of_or (is_by_sender g.about) (is_by_peer g.about) all.0
close_last (g ∷ []) (Some k) all last = (all.0, last)
close_last (g ∷ h ∷ gs) left all last = (all.0, close_last (h ∷ gs) left all.1 last)

-- ---- what is kept

nothing_beside : (b : Bool) (told beside : List LoggedEvent) → beside ≡ [] → cond b (beside ++ told) (told ++ beside) ≡ told
nothing_beside true told beside none = rw none refl
nothing_beside false told beside none = rw none (append-nil told)

sure_told : (first : Bool) (g : Group) (left : Option Group) → IsSure g left → told_by first left ≡ sure g
sure_told first g None is = rw is refl
sure_told first g (Some k) is =
    nothing_beside (first && is_of_sent k.about) (events_about k.about) k.beside.items is.2
    ∙ ap events_about is.1 ∙ sym (ap (λ b. cond b (events_about g.about) []) is.0)

held_at_end : (first closed : Bool) (last : Option Group) (begun : Option Open) (report : Option LoggedEvent) → begun ≡ None → report ≡ None
    → kept_events first closed last begun report ≡ told_by first last
held_at_end first true last begun report none report_is = refl
held_at_end first false last begun report none report_is = rw (none, report_is, append-nil (told_by first last ++ []), append-nil (told_by first last)) refl

closed_leaves : (torn closed : Bool) (last left : Option Group) → closed ≡ true → Leaves torn closed last left → left ≡ last
closed_leaves false closed last left is leaves = leaves
closed_leaves true true last left is leaves = leaves
closed_leaves true false last left is leaves = absurd (let not : false ≡ true = is in cc)

keeps_end : (torn first a c : Bool) (es ended : List LoggedEvent) (last left : Option Group) → Keeps first a c es [] (ended ++ told_by first last) → IfSome last (IsLast c)
    → Leaves torn c last left → (last ≡ None → ended ≡ []) → KeepsAtEnd first a torn es (ended ++ told_by first left)
keeps_end torn first true c es ended last left kept last_is leaves none = let same : left ≡ last = closed_leaves torn c last left kept.0 leaves in rw same kept.1
keeps_end false first false true es ended last left kept last_is leaves none = rw leaves (inr (rw (append-nil es) at kept))
keeps_end true first false true es ended last left kept last_is leaves none = rw leaves (inr (inr (rw (append-nil es) at kept)))
keeps_end false first false false es ended last left kept last_is leaves none = rw leaves (inl (kept ∙ append-nil es))
keeps_end true first false false es ended None left kept last_is leaves none =
    rw (leaves, none refl) (inl (sym (append-nil es) ∙ sym kept ∙ ap (λ xs. xs ++ []) (none refl), refl))
keeps_end true first false false es ended (Some g) left kept last_is leaves none =
    inr (inl (record {
      front = ended;
      last = g;
      is = last_is.place;
      are = sym (append-nil es) ∙ sym kept;
      left = ap (λ xs. ended ++ xs) (sure_told first g left leaves);
    }))

cons_same : (g : Group) (gs hs : List Group) → g ∷ gs ≡ g ∷ hs → gs ≡ hs
cons_same g gs hs is = cc

no_more : (out ended : List Group) → out ++ ended ≡ out → ended ≡ []
no_more [] ended is = is
no_more (g ∷ out) ended is = no_more out ended (cons_same g (out ++ ended) out is)

events_none : (first : Bool) (gs : List Group) → gs ≡ [] → events first gs ≡ []
events_none first gs is = rw is refl

pub ends_all : (torn : Bool) (old : Held) (first c : Bool) (last : Option Group) (begun : Option Open) (report : Option LoggedEvent) (out mid end : List Group)
    → begun ≡ None → report ≡ None → Gathers old [] record { events = kept_events first c last begun report; is_closed = c; reports_first = first } out mid
    → IfSome last (IsLast c) → (last ≡ None → mid ≡ out) → HandsLast torn c last mid end → Ends torn old out end
ends_all torn old first c last begun report out mid end none report_is gathers last_is same hands =
    let kept = rw (← gathers.order, held_at_end first c last begun report none report_is) at gathers.kept in
    let ended : last ≡ None → events first gathers.ended ≡ [] =
    λ is. events_none first gathers.ended (no_more out gathers.ended (sym gathers.handed ∙ same is)) in
    record {
      ended = gathers.ended ++ option_to_list hands.left;
      handed = hands.handed ∙ ap (λ gs. gs ++ option_to_list hands.left) gathers.handed ∙ append_assoc out gathers.ended (option_to_list hands.left);
      groups = all_append IsGroup gathers.ended (option_to_list hands.left) gathers.groups (left_groups torn c last hands.left last_is hands.is);
      closing = close_last gathers.ended hands.left gathers.unclosed (left_unsent torn c last hands.left last_is hands.is);
      kept = rw (← gathers.order, flat_map-append (events_of first) gathers.ended (option_to_list hands.left), told_last first hands.left)
          (keeps_end torn first old.is_closed c old.events (events first gathers.ended) last hands.left kept last_is hands.is ended);
    }
