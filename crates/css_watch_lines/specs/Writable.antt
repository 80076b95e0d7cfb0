-- Values that can stand in a line, so that the line is read back.
use Rattle.std.specs.Prelude.{◌≤◌}
use Rattle.serde_json.specs.Data.{Data, Members, depth, members_depth}
use Rattle.serde_json.specs.View.{members_view}
use Rattle.css_text.specs.CompactTexts.{IsPlain, MembersArePlain}
use Rattle.css_watch_lines.specs.declared.members.Members as build

-- a plain value that nests at most 9 levels deep
pub record IsWritable (value : Data) : Type 0 where
  pub plain : IsPlain value
  pub shallow : depth value ≤ 9

-- members of such values
pub record AreWritable (members : Members) : Type 0 where
  pub plain : MembersArePlain members
  pub shallow : members_depth members ≤ 9

-- the members that are being put together
abbrev pub told_in : build.Members → Members
told_in members = members_view members.map.entries
