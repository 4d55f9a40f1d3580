use Rattle.std.proofs.Common.{◌∙◌, sym}
use Rattle.c_tokens.proofs.CharacterLaws.{string_on}
use Rattle.c_tokens.proofs.convert.string_bytes.Goals as goal

pub loop-rest-preserved : goal.loop-rest-preserved
loop-rest-preserved c =
    string_on c.loop-rest.bytes _ c.loop-rest.rest.now _ c.character_length.result c.in-Some.b _ c.in-len1-up.len_at_least c.character_length.ensures.value
    (c.character_length.ensures.moves c.in-len1-up.len_at_least) (sym c.in-Some.is ∙ c.character_value.ensures) c.behind-rest.ensures c.in_ok-push-in-Some.ensures.ok c.loop-rest.invariant
