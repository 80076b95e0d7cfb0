-- Values whose texts are UTF-8, and whose names are in alphabetical order.
use Rattle.std.specs.Prelude.{◌≡◌, ℕ, List, pos, negsuc, ⊤}
use Rattle.std.specs.Ordering.{nat_cmp}
use Rattle.std.specs.declared.cmp.Ordering.TheVariants.{Greater}
use Rattle.std.specs.Cmp.Lexicographic.{slice_cmp}
use Rattle.std.specs.Str.{IsUtf8}
use Rattle.serde_json.specs.Data.{Num, unsigned, negative, float, Data, null, boolean, number, string, array, object}
use Rattle.serde_json.specs.Data.{Items, no_items, item, Members, no_members, member}

abbrev mutual
  -- each text and each name is UTF-8
  pub HasUtf8 : Data → Type 0
  HasUtf8 null = ⊤
  HasUtf8 (boolean b) = ⊤
  HasUtf8 (number n) = ⊤
  HasUtf8 (string s) = IsUtf8 s
  HasUtf8 (array ds) = ItemsHaveUtf8 ds
  HasUtf8 (object ms) = MembersHaveUtf8 ms

  pub ItemsHaveUtf8 : Items → Type 0
  ItemsHaveUtf8 no_items = ⊤
  ItemsHaveUtf8 (item d ds) = HasUtf8 d × ItemsHaveUtf8 ds

  pub MembersHaveUtf8 : Members → Type 0
  MembersHaveUtf8 no_members = ⊤
  MembersHaveUtf8 (member k d ms) = IsUtf8 k × HasUtf8 d × MembersHaveUtf8 ms

-- the name comes after each name of the members
abbrev pub IsAfter : List ℕ → Members → Type 0
IsAfter k no_members = ⊤
IsAfter k (member l d ms) = (slice_cmp nat_cmp k l ≡ Greater) × IsAfter k ms

-- the members, and then others
abbrev pub followed_by : Members → Members → Members
followed_by no_members others = others
followed_by (member k d ms) others = member k d (followed_by ms others)

-- a number that isn't below zero is unsigned
abbrev pub IsCanonical : Num → Type 0
IsCanonical (unsigned n) = ⊤
IsCanonical (negative (pos n)) = ⊥
IsCanonical (negative (negsuc n)) = ⊤
IsCanonical (float x) = ⊤

abbrev mutual
  -- the names of each object are in alphabetical order
  pub IsOrdered : Data → Type 0
  IsOrdered null = ⊤
  IsOrdered (boolean b) = ⊤
  IsOrdered (number n) = IsCanonical n
  IsOrdered (string s) = ⊤
  IsOrdered (array ds) = ItemsAreOrdered ds
  IsOrdered (object ms) = AreOrderedAfter no_members ms

  pub ItemsAreOrdered : Items → Type 0
  ItemsAreOrdered no_items = ⊤
  ItemsAreOrdered (item d ds) = IsOrdered d × ItemsAreOrdered ds

  pub AreOrderedAfter : Members → Members → Type 0
  AreOrderedAfter found no_members = ⊤
  AreOrderedAfter found (member k d ms) = IsAfter k found × IsOrdered d
      × AreOrderedAfter (followed_by found (member k d no_members)) ms
