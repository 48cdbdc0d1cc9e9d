-- Modes worked out, of which a route may serve fewer.
use Rattle.std.proofs.Common.{◌≡◌, None, Some, codes, refl}
use Rattle.serde_json.specs.Data.{null, number, string, object, unsigned, no_members, member}
use Rattle.fh_model.specs.declared.commands.Mode.TheVariants as mode
use Rattle.api_json.specs.Values.{mode_in, told_mode}

absent : mode_in None ≡ told_mode (Some mode.Add)
absent = refl

nothing : mode_in (Some null) ≡ told_mode (Some mode.Add)
nothing = refl

add_text : mode_in (Some (string (codes "add"))) ≡ told_mode (Some mode.Add)
add_text = refl

overwrite_text : mode_in (Some (string (codes "overwrite"))) ≡ told_mode (Some mode.Overwrite)
overwrite_text = refl

overwrite_tag : mode_in (Some (object (member (codes ".tag") (string (codes "overwrite")) no_members))) ≡ told_mode (Some mode.Overwrite)
overwrite_tag = refl

update_tag : mode_in (Some (object (member (codes ".tag") (string (codes "update")) (member (codes "update") (string (codes "00000000000000ff")) no_members)))) ≡ told_mode (Some (mode.Update 255))
update_tag = refl

greatest_rev : mode_in (Some (object (member (codes ".tag") (string (codes "update")) (member (codes "update") (string (codes "ffffffffffffffff")) no_members)))) ≡ told_mode (Some (mode.Update 18446744073709551615))
greatest_rev = refl

rev_of_9_digits : mode_in (Some (object (member (codes ".tag") (string (codes "update")) (member (codes "update") (string (codes "123456789")) no_members)))) ≡ told_mode (Some (mode.Update 0))
rev_of_9_digits = refl

rev_of_17_digits : mode_in (Some (object (member (codes ".tag") (string (codes "update")) (member (codes "update") (string (codes "12345678901234567")) no_members)))) ≡ told_mode (Some (mode.Update 0))
rev_of_17_digits = refl

rev_of_8_digits : mode_in (Some (object (member (codes ".tag") (string (codes "update")) (member (codes "update") (string (codes "12345678")) no_members)))) ≡ told_mode (None)
rev_of_8_digits = refl

capital_rev : mode_in (Some (object (member (codes ".tag") (string (codes "update")) (member (codes "update") (string (codes "00000000000000FF")) no_members)))) ≡ told_mode (None)
capital_rev = refl

rev_as_number : mode_in (Some (object (member (codes ".tag") (string (codes "update")) (member (codes "update") (number (unsigned 1)) no_members)))) ≡ told_mode (None)
rev_as_number = refl

update_without_rev : mode_in (Some (object (member (codes ".tag") (string (codes "update")) no_members))) ≡ told_mode (None)
update_without_rev = refl

update_text : mode_in (Some (string (codes "update"))) ≡ told_mode (None)
update_text = refl

tag_of_null : mode_in (Some (object (member (codes ".tag") null no_members))) ≡ told_mode (None)
tag_of_null = refl

number_as_mode : mode_in (Some (number (unsigned 5))) ≡ told_mode (None)
number_as_mode = refl
