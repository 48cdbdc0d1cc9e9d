use Rattle.std.proofs.Common.{◌≡◌, ◌++◌, List, OnOk, ap, sym, subst, ◌∙◌}
use Rattle.fh_model.specs.declared.names.Name.{Name}
use Rattle.fh_model.specs.declared.replies.Entry.{Entry}
use Rattle.api_json.specs.Answers.{Field, entry_fields, file_fields}
use Rattle.api_json.specs.Tokens.{fields_tokens}
use Rattle.api_json.proofs.entries.put_fields.Goals as goal

pub returns-in-File-clause-tokens : goal.returns-in-File-clause-tokens
returns-in-File-clause-tokens c =
    let same = ap (λ (names : List Name). file_fields names c.in-File.meta) c.as_slice.ensures ∙ ap (λ (entry : Entry). entry_fields entry) (sym c.in-File.is) in
    subst (λ (fields : List Field). OnOk c.put_file_fields.result (c.put_file_fields.new.out.tokens ≡ c.args.out.now.tokens ++ fields_tokens fields))
    same c.put_file_fields.ensures.tokens
