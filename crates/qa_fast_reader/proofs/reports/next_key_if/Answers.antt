use Rattle.std.proofs.Common.{◌∙◌, ◌++◌, length, drop, sym, ap, arith, refl}
use Rattle.std.proofs.lemmas.List.{drop_at, length-append}
use Rattle.qa_fast_reader.proofs.reports.next_key_if.Goals as goal

pub returns : goal.returns
returns c =
    let word = c.args.word.now in
    let behind = c.in_ok-_behind._behind.now in
    let found = c.in_ok-_behind.ensures in
    record {
      within = omega (arith, ap length found, length-append word behind);
      is = found ∙ ap (λ l. word ++ l) (sym (ap (drop (length word)) found ∙ drop_at word behind (length word) refl)) ∙ ap (λ w. w ++ drop (length word) c.args.bytes.now) c.requires;
    }
