-- The tokens of which JSON is written.
use Rattle.std.specs.Prelude.{List}
use Rattle.json.specs.Token.{Token}
use Rattle.json.specs.Tree.{json_tokens, members_tokens}
use Rattle.serde_json.specs.Data.{Data}
use Rattle.serde_json.specs.Written.{members_outline, outline}
use Rattle.api_json.specs.Answers.{Field, members_of}

abbrev pub tokens_of : Data → List Token
tokens_of value = json_tokens (outline value)

-- those of fields, and of the end of their object
abbrev pub fields_tokens : List Field → List Token
fields_tokens fields = members_tokens (members_outline (members_of fields))
