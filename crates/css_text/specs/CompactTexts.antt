-- Values whose compact text is its own whole text.
use Rattle.std.specs.Prelude.{suc, ◌^◌, ◌<◌, ⊤, pos, negsuc}
use Rattle.serde_json.specs.Data.{Num, unsigned, negative, float, Data, null, boolean, number, string, array, object}
use Rattle.serde_json.specs.Data.{Items, no_items, item, Members, no_members, member}

-- a whole number of at most 18 digits
abbrev pub IsPlainNumber : Num → Type 0
IsPlainNumber (unsigned n) = n < 10 ^ 18
IsPlainNumber (negative (pos n)) = n < 10 ^ 18
IsPlainNumber (negative (negsuc n)) = suc n < 10 ^ 18
IsPlainNumber (float x) = ⊥

abbrev mutual
  -- each number is whole and has at most 18 digits, and there is no truth value
  pub IsPlain : Data → Type 0
  IsPlain null = ⊤
  IsPlain (boolean b) = ⊥
  IsPlain (number n) = IsPlainNumber n
  IsPlain (string s) = ⊤
  IsPlain (array ds) = ItemsArePlain ds
  IsPlain (object ms) = MembersArePlain ms

  -- the same of each item
  pub ItemsArePlain : Items → Type 0
  ItemsArePlain no_items = ⊤
  ItemsArePlain (item d ds) = IsPlain d × ItemsArePlain ds

  -- the same of each member's value
  pub MembersArePlain : Members → Type 0
  MembersArePlain no_members = ⊤
  MembersArePlain (member k d ms) = IsPlain d × MembersArePlain ms
