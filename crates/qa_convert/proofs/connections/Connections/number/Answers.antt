use Rattle.std.proofs.Common.{◌≡◌, ◌∙◌, Some, None, ap, map, sym}
use Rattle.std.specs.String.{string_bytes}
use Rattle.qa_convert.proofs.Numbering.{has_number, named_before, named_now, new_number, one_more, same_number}
use Rattle.qa_convert.specs.Connections.{next_number, number_in, numbered_text, numbering_of}
use Rattle.qa_convert.proofs.connections.Connections.number.Goals as goal

pub returns-in-Some-clause-number : goal.returns-in-Some-clause-number
returns-in-Some-clause-number c =
    let w = c.args.self.now in
    let bytes = string_bytes c.args.name in
    let looked = rw c.as_str.ensures.value at c.in-Some.ensures.value in
    let found : number_in (numbering_of w) bytes ≡ Some c.in-Some.number.now = sym (same_number bytes w.numbers.entries) ∙ sym looked in
    has_number (numbering_of w) bytes _ found

pub returns-in-Some-clause-named : goal.returns-in-Some-clause-named
returns-in-Some-clause-named c =
    let w = c.args.self.now in
    let bytes = string_bytes c.args.name in
    let looked = rw c.as_str.ensures.value at c.in-Some.ensures.value in
    let found : number_in (numbering_of w) bytes ≡ Some c.in-Some.number.now = sym (same_number bytes w.numbers.entries) ∙ sym looked in
    named_before (numbering_of w) bytes _ found

pub returns-clause-number : goal.returns-clause-number
returns-clause-number c =
    let w = c.args.self.now in
    let bytes = string_bytes c.args.name in
    let looked = rw c.as_str.ensures.value at c.in_default.ensures.value in
    let none : number_in (numbering_of w) bytes ≡ None = sym (same_number bytes w.numbers.entries) ∙ sym looked in
    let next : c.saturating_add-self.result ≡ next_number (numbering_of w) = c.saturating_add-self.ensures in
    next ∙ sym (new_number (numbering_of w) bytes none)

pub returns-clause-named : goal.returns-clause-named
returns-clause-named c =
    let w = c.args.self.now in
    let bytes = string_bytes c.args.name in
    let looked = rw c.as_str.ensures.value at c.in_default.ensures.value in
    let none : number_in (numbering_of w) bytes ≡ None = sym (same_number bytes w.numbers.entries) ∙ sym looked in
    let next : c.saturating_add-self.result ≡ next_number (numbering_of w) = c.saturating_add-self.ensures in
    named_now (numbering_of w) bytes (map numbered_text c.insert.new.self.entries) c.saturating_add-self.result none next
    (ap (λ es. map numbered_text es) c.in_ok-insert.ensures.entries ∙ one_more c.args.name c.saturating_add-self.result w.numbers.entries)
