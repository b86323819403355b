-- Events that come one after another, in groups.
use Rattle.std.proofs.Common.{◌≡◌, ◌∙◌, inl, inr, ◌⊎◌, List, [], ◌∷◌, ◌++◌, Bool, true, false, append_assoc, refl, sym, ap}
use Rattle.std.specs.List.{AllByRecursion}
use Rattle.std.specs.Prelude.{◌&&◌, ◌||◌}
use Rattle.std.proofs.lemmas.Grind.{flat_map-append}
use Rattle.qa_convert.specs.Groups.{EndWithClose, Gathers, Held, IsGroup, Keeps, UpToClose, begin_closing, closes, events, events_of, is_report, sends_close}
use Rattle.qa_convert.specs.declared.event.LoggedEvent.{LoggedEvent}
use Rattle.qa_convert.specs.declared.groups.Group.{Group}

-- ---- events that are kept up to the packet that closes the connection

end_behind : (front es : List LoggedEvent) → EndWithClose es → EndWithClose (front ++ es)
end_behind front es end = record {
  front = front ++ end.front;
  packet = end.packet;
  beside = end.beside;
  are = ap (λ xs. front ++ xs) end.are ∙ sym (append_assoc front end.front (end.packet ∷ end.beside));
  brings = end.brings;
  fit = end.fit;
}

or_first : (a b : Bool) → a ≡ true → (a || b) ≡ true
or_first true b is = refl
or_first false b is = cc

begin_more : (first : Bool) (gone more : List LoggedEvent) → begin_closing first gone ≡ true → begin_closing first (gone ++ more) ≡ true
begin_more first [] more is = cc
begin_more first (e ∷ []) [] is = is
begin_more first (e ∷ []) (f ∷ more) is = or_first (sends_close e.said) (first && is_report e.said && sends_close f.said) is
begin_more first (e ∷ f ∷ gone) more is = is

close_behind : (first : Bool) (front gone kept : List LoggedEvent) → (begin_closing first gone ≡ true) ⊎ EndWithClose kept
    → (begin_closing first gone ≡ true) ⊎ EndWithClose (front ++ kept)
close_behind first front gone kept (inl begin) = inl begin
close_behind first front gone kept (inr end) = inr (end_behind front kept end)

close_more : (first : Bool) (gone more kept : List LoggedEvent) → (begin_closing first gone ≡ true) ⊎ EndWithClose kept
    → (begin_closing first (gone ++ more) ≡ true) ⊎ EndWithClose kept
close_more first gone more kept (inl begin) = inl (begin_more first gone more begin)
close_more first gone more kept (inr end) = inr end

pub up_to_behind : (first : Bool) (front es kept : List LoggedEvent) → UpToClose first es kept → UpToClose first (front ++ es) (front ++ kept)
up_to_behind first front es kept up = record {
  gone = up.gone;
  are = ap (λ xs. front ++ xs) up.are ∙ sym (append_assoc front kept up.gone);
  close = close_behind first front up.gone kept up.close;
}

pub up_to_more : (first : Bool) (es more kept : List LoggedEvent) → UpToClose first es kept → UpToClose first (es ++ more) kept
up_to_more first es more kept up = record {
  gone = up.gone ++ more;
  are = ap (λ xs. xs ++ more) up.are ∙ append_assoc kept up.gone more;
  close = close_more first up.gone more kept up.close;
}

-- ---- one after another

keeps_then : (first a b c : Bool) (es more mid fs last front behind : List LoggedEvent) → Keeps first a b es more (front ++ mid) → Keeps first b c mid fs (behind ++ last)
    → Keeps first a c es (more ++ fs) ((front ++ behind) ++ last)
keeps_then first true true c es more mid fs last front behind one two =
    (two.0, append_assoc front behind last ∙ ap (λ xs. front ++ xs) two.1 ∙ one.1)
keeps_then first true false c es more mid fs last front behind one two = absurd (let no : false ≡ true = one.0 in cc)
keeps_then first false true true es more mid fs last front behind one two =
    rw (append_assoc front behind last, two.1, ← append_assoc es more fs) (up_to_more first (es ++ more) fs (front ++ mid) one)
keeps_then first false true false es more mid fs last front behind one two = absurd (let no : false ≡ true = two.0 in cc)
keeps_then first false false false es more mid fs last front behind one two =
    append_assoc front behind last ∙ ap (λ xs. front ++ xs) two ∙ sym (append_assoc front mid fs) ∙ ap (λ xs. xs ++ fs) one ∙ append_assoc es more fs
keeps_then first false false true es more mid fs last front behind one two =
    let all : es ++ (more ++ fs) ≡ front ++ (mid ++ fs) = sym (append_assoc es more fs) ∙ ap (λ xs. xs ++ fs) (sym one) ∙ append_assoc front mid fs in
    rw (append_assoc front behind last, all) (up_to_behind first front (mid ++ fs) (behind ++ last) two)

pub all_append : (P : Group → Type 0) (gs hs : List Group) → AllByRecursion P gs → AllByRecursion P hs → AllByRecursion P (gs ++ hs)
all_append P [] hs one two = two
all_append P (g ∷ gs) hs one two = (one.0, all_append P gs hs one.1 two)

pub gathers_then : (a b c : Held) (more fs : List LoggedEvent) (out mid last : List Group) → Gathers a more b out mid → Gathers b fs c mid last → Gathers a (more ++ fs) c out last
gathers_then a b c more fs out mid last one two =
    let first = a.reports_first in
    let again = rw one.order at two.kept in
    record {
      ended = one.ended ++ two.ended;
      handed = two.handed ∙ ap (λ gs. gs ++ two.ended) one.handed ∙ append_assoc out one.ended two.ended;
      groups = all_append IsGroup one.ended two.ended one.groups two.groups;
      unclosed = all_append (λ (g : Group). closes g ≡ false) one.ended two.ended one.unclosed two.unclosed;
      order = two.order ∙ one.order;
      kept = rw (flat_map-append (events_of first) one.ended two.ended)
          (keeps_then first a.is_closed b.is_closed c.is_closed a.events more b.events fs c.events (events first one.ended) (events first two.ended) one.kept again);
    }
