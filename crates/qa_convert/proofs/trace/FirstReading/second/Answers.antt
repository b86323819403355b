use Rattle.std.proofs.Common.{◌∙◌, subst, sym}
use Rattle.qa_convert.proofs.Headed.{begins_like, header_more}
use Rattle.qa_convert.specs.Headers.{IsHeaderOf, own_say}
use Rattle.qa_convert.specs.Sources.{sources_in}
use Rattle.qa_convert.specs.Surveying.{Surveyed}
use Rattle.qa_convert.specs.Taking.{Begins, progress_of}
use Rattle.qa_convert.specs.Telling.{will_say}
use Rattle.qa_convert.specs.declared.trace.Asked.{Asked}
use Rattle.qa_convert.proofs.trace.FirstReading.second.Goals as goal

pub header-requires : goal.header-requires
header-requires c = c.new-writing.ensures.unit ∙ c.unit-unit.ensures

pub returns-clause-begins : goal.returns-clause-begins
returns-clause-begins c =
    let asked = c.self.inside.asked in
    let progress = progress_of c.new-converting.result in
    subst (λ (v : Asked × Surveyed). Begins c.args.head v.0.connection v.0.dialect v.1.sources progress) c.self.view_is
    (begins_like c.args.head asked.connection asked.dialect c.dialect_by-dialect.result _ (sources_in c.self.inside.surveying.survey) progress
    c.dialect_by-dialect.ensures c.new-converting.ensures.begins)

pub returns-clause-header : goal.returns-clause-header
returns-clause-header c =
    let asked = c.self.inside.asked in
    let log = sources_in c.self.inside.surveying.survey in
    let found = c.dialect_by-dialect.result in
    let header = c.in_ok-header.header in
    let line = c.in_ok-line.ensures.line in
    let unit = c.new-converting.result.conversion.writing.output.unit in
    let made : IsHeaderOf asked log unit c.in_ok-line.line = record {
      settings = header;
      own = line.0;
      text = line.2;
      role = c.in_ok-header.ensures.role;
      unit = c.in_ok-header.ensures.says.unit ∙ sym (c.new-writing.ensures.unit ∙ c.unit-unit.ensures) ∙ sym c.in_ok-header.ensures.unit ∙ sym c.in_ok-line.ensures.unit ∙ sym c.new-converting.ensures.unit;
      found = found;
      like = c.dialect_by-dialect.ensures;
      says = header_more asked.choices found log (will_say c.header.new.writing) (own_say line.0) header line.3 c.in_ok-header.ensures.says;
    } in
    subst (λ (v : Asked × Surveyed). IsHeaderOf v.0 v.1.sources unit c.in_ok-line.line) c.self.view_is made
