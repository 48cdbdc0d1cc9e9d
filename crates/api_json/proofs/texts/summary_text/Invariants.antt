use Rattle.std.proofs.Common.{◌≡◌, ◌++◌, drop, string_bytes}
use Rattle.api_json.specs.Answers.{summary}
use Rattle.api_json.proofs.texts.summary_text.Given as goal

abbrev pub invariant-loop-tag : goal.invariant-loop-tag
invariant-loop-tag l = string_bytes l.out ++ summary (drop l.tag-index l.tags) ≡ summary l.tags
