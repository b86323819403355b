use Rattle.std.proofs.Common.{◌≡◌, ◌∙◌, ◌∷◌, ◌++◌, [], List, ap, ap₂}
use Rattle.qa_violations.proofs.around_lemmas.Rows.{last_of_more}
use Rattle.qa_violations.specs.around.Keeping.{room_in}
use Rattle.qa_violations.specs.around.Rows.{last_of, row}
use Rattle.qa_violations.specs.declared.around.row.Row.{Row}
use Rattle.qa_violations.proofs.around.latest.Latest.keep.Goals as goal

pub returns-clause-kept : goal.returns-clause-kept
returns-clause-kept g c = λ rs header h keeps stands.
    let old : List Row = c.args.self.now.rows.items in
    let count = c.args.self.now.count in
    let here : Row = row c.args.line c.args.kind c.args.time header h in
    let room : c.reserve.new.self.items ≡ room_in count old = c.reserve.ensures.items ∙ (c.make_room.ensures ∙ ap (λ n. room_in n old) c.from.ensures) in
    let pushed : c.push_back_reserved.new.self.items ≡ room_in count old ++ here ∷ [] =
    c.push_back_reserved.ensures.items ∙ ap₂ (λ (qs : List Row) (r : Row). qs ++ r ∷ []) room (c.of.ensures c.requires.works header h stands) in
    let more : room_in count old ++ here ∷ [] ≡ last_of count (rs ++ here ∷ []) = last_of_more count rs old here c.requires.some keeps in
    pushed ∙ more
