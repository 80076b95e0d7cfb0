-- A message that is written is read back as the same change, as a law over changes alone.
use Rattle.std.proofs.Common.{◌≡◌, ℕ, List, [], ◌∷◌, Some, None, Ok, refl, sym, ap, ◌∙◌}
use Rattle.std.specs.Prelude.{⊤}
use Rattle.std.specs.Ordering.{nat_cmp}
use Rattle.std.specs.declared.cmp.Ordering.TheVariants.{Greater}
use Rattle.std.specs.Cmp.Lexicographic.{slice_cmp}
use Rattle.std.specs.Str.{IsUtf8}
use Rattle.json.proofs.Printed.Utf8.{IsUtf8-are_ascii}
use Rattle.serde_json.specs.Data.{Data, null, object, string, Members, no_members, member}
use Rattle.css_num.specs.declared.timeline.Timeline.{Timeline}
use Rattle.css_text.specs.Ordered.{HasUtf8, ItemsHaveUtf8, MembersHaveUtf8}
use Rattle.css_text.specs.Ordered.{IsAfter, followed_by, IsOrdered, ItemsAreOrdered, AreOrderedAfter}
use Rattle.css_text.specs.Readings.{object_of}
use Rattle.css_text.proofs.Laws.{object_compact}
use Rattle.css_cii.specs.Messages.{message_of}
use Rattle.css_cii.specs.Names.{json_name}
use Rattle.css_cii.specs.Texts.{timelines_data, timelines_items, said_before, change_members, change_text}
use Rattle.css_cii.specs.Texts.{EachOf, SelectorsAreUtf8, RatesAreInRange, IsUtf8Change}
use Rattle.css_cii.specs.declared.change.Change.{Change}
use Rattle.css_cii.specs.declared.change.Told.{Told}
use Rattle.css_cii.specs.declared.change.Told.TheVariants.{Unsaid, Said}
use Rattle.css_cii.specs.declared.name.CiiName.{CiiName}
use Rattle.css_cii.specs.declared.name.CiiName.TheVariants as name
use Rattle.css_cii.proofs.RoundTrips.{message_back, text_is, plain_change, shallow_change}

-- ---- the names are in order

-- each name comes after those of the members
abbrev AllAfter : List CiiName → Members → Type 0
AllAfter [] found = ⊤
AllAfter (k ∷ ks) found = IsAfter (json_name k) found × AllAfter ks found

-- each name comes after this one
abbrev AllGreater : CiiName → List CiiName → Type 0
AllGreater l [] = ⊤
AllGreater l (k ∷ ks) = (slice_cmp nat_cmp (json_name k) (json_name l) ≡ Greater) × AllGreater l ks

-- a name that comes after the members, and after one more, comes after all of them
one_more : (k l : List ℕ) (d : Data) (found : Members) → IsAfter k found → slice_cmp nat_cmp k l ≡ Greater
    → IsAfter k (followed_by found (member l d no_members))
one_more k l d no_members h g = (g, tt)
one_more k l d (member m e found) h g = (h.0, one_more k l d found h.1 g)

-- so do several names
all_more : (ks : List CiiName) (l : CiiName) (d : Data) (found : Members) → AllAfter ks found → AllGreater l ks
    → AllAfter ks (followed_by found (member (json_name l) d no_members))
all_more [] l d found h g = tt
all_more (k ∷ ks) l d found h g =
    (one_more (json_name k) (json_name l) d found h.0 g.0, all_more ks l d found h.1 g.1)

-- Members stay in order with one more property before the rest, whether it is said or not. The names `ks` are those
-- that may still come.
then : {T : Type 0} (written : T → Data) (p : CiiName) (told : Told T) (rest : Members)
    (ks : List CiiName) (found : Members)
    → ((value : T) → IsOrdered (written value)) → AllGreater p ks → AllAfter (p ∷ ks) found
    → ((next : Members) → AllAfter ks next → AreOrderedAfter next rest)
    → AreOrderedAfter found (said_before written p told rest)
then written p Unsaid rest ks found ordered g h go_on = go_on found h.1
then written p (Said None) rest ks found ordered g h go_on = (h.0, tt, go_on _ (all_more ks p null found h.1 g))
then written p (Said (Some value)) rest ks found ordered g h go_on =
    (h.0, ordered value, go_on _ (all_more ks p (written value) found h.1 g))

-- each timeline's object has its names in order
timelines_ordered : (ts : List Timeline) → ItemsAreOrdered (timelines_items ts)
timelines_ordered [] = tt
timelines_ordered (t ∷ ts) = ((tt, (tt, tt, ((refl, tt), tt, tt)), ((refl, tt), tt, tt)), timelines_ordered ts)

-- a text has no names
words_ordered : (words : List ℕ) → IsOrdered (string words)
words_ordered words = tt

-- after the seventh
abbrev from7 : List CiiName
from7 = name.TsUrl ∷ name.WcUrl ∷ []

-- after the sixth
abbrev from6 : List CiiName
from6 = name.Timelines ∷ from7

-- after the fifth
abbrev from5 : List CiiName
from5 = name.TeUrl ∷ from6

-- after the fourth
abbrev from4 : List CiiName
from4 = name.ProtocolVersion ∷ from5

-- after the third
abbrev from3 : List CiiName
from3 = name.PresentationStatus ∷ from4

-- after the second
abbrev from2 : List CiiName
from2 = name.MrsUrl ∷ from3

-- the names that may come after the first, in alphabetical order
abbrev from1 : List CiiName
from1 = name.ContentIdStatus ∷ from2

-- the members of a change are in order
pub change_ordered : (c : Change) → IsOrdered (object (change_members c))
change_ordered c =
    then string name.ContentId c.content_id _ from1 no_members words_ordered
    (refl, (refl, (refl, (refl, (refl, (refl, (refl, (refl, tt))))))))
    (tt, (tt, (tt, (tt, (tt, (tt, (tt, (tt, (tt, tt))))))))) (λ f h.
    then string name.ContentIdStatus c.content_id_status _ from2 f words_ordered
    (refl, (refl, (refl, (refl, (refl, (refl, (refl, tt))))))) h (λ f h.
    then string name.MrsUrl c.mrs_url _ from3 f words_ordered
    (refl, (refl, (refl, (refl, (refl, (refl, tt)))))) h (λ f h.
    then string name.PresentationStatus c.presentation_status _ from4 f words_ordered
    (refl, (refl, (refl, (refl, (refl, tt))))) h (λ f h.
    then string name.ProtocolVersion c.protocol_version _ from5 f words_ordered
    (refl, (refl, (refl, (refl, tt)))) h (λ f h.
    then string name.TeUrl c.te_url _ from6 f words_ordered (refl, (refl, (refl, tt))) h (λ f h.
    then timelines_data name.Timelines c.timelines _ from7 f timelines_ordered (refl, (refl, tt)) h (λ f h.
    then string name.TsUrl c.ts_url _ (name.WcUrl ∷ []) f words_ordered (refl, tt) h (λ f h.
    then string name.WcUrl c.wc_url no_members [] f words_ordered tt h (λ f h. tt)))))))))

-- ---- UTF-8

-- each timeline's object is UTF-8 where its selector is
timelines_utf8 : (ts : List Timeline) → SelectorsAreUtf8 ts → ItemsHaveUtf8 (timelines_items ts)
timelines_utf8 [] h = tt
timelines_utf8 (t ∷ ts) h = (
  (
    IsUtf8-are_ascii _ refl,
    (IsUtf8-are_ascii _ refl, tt, (IsUtf8-are_ascii _ refl, tt, tt)),
    (IsUtf8-are_ascii _ refl, h.0, tt),
  ),
  timelines_utf8 ts h.1,
)

-- each name is ASCII
name_utf8 : (p : CiiName) → IsUtf8 (json_name p)
name_utf8 name.ProtocolVersion = IsUtf8-are_ascii _ refl
name_utf8 name.MrsUrl = IsUtf8-are_ascii _ refl
name_utf8 name.ContentId = IsUtf8-are_ascii _ refl
name_utf8 name.ContentIdStatus = IsUtf8-are_ascii _ refl
name_utf8 name.PresentationStatus = IsUtf8-are_ascii _ refl
name_utf8 name.WcUrl = IsUtf8-are_ascii _ refl
name_utf8 name.TsUrl = IsUtf8-are_ascii _ refl
name_utf8 name.TeUrl = IsUtf8-are_ascii _ refl
name_utf8 name.Timelines = IsUtf8-are_ascii _ refl

-- members stay UTF-8 with one more property before them, whether it is said or not
said_utf8 : {T : Type 0} (P : T → Type 0) (written : T → Data) (p : CiiName) (told : Told T) (rest : Members)
    → ((value : T) → P value → HasUtf8 (written value)) → EachOf P told → MembersHaveUtf8 rest
    → MembersHaveUtf8 (said_before written p told rest)
said_utf8 P written p Unsaid rest utf8 h r = r
said_utf8 P written p (Said None) rest utf8 h r = (name_utf8 p, tt, r)
said_utf8 P written p (Said (Some value)) rest utf8 h r = (name_utf8 p, utf8 value h, r)

-- a text's object is the text
words_utf8 : (words : List ℕ) → IsUtf8 words → HasUtf8 (string words)
words_utf8 words h = h

-- the members of a change are UTF-8 where its texts are
pub change_utf8 : (c : Change) → IsUtf8Change c → HasUtf8 (object (change_members c))
change_utf8 c h =
    said_utf8 IsUtf8 string name.ContentId c.content_id _ words_utf8 h.content_id
    (said_utf8 IsUtf8 string name.ContentIdStatus c.content_id_status _ words_utf8 h.content_id_status
    (said_utf8 IsUtf8 string name.MrsUrl c.mrs_url _ words_utf8 h.mrs_url
    (said_utf8 IsUtf8 string name.PresentationStatus c.presentation_status _ words_utf8 h.presentation_status
    (said_utf8 IsUtf8 string name.ProtocolVersion c.protocol_version _ words_utf8 h.protocol_version
    (said_utf8 IsUtf8 string name.TeUrl c.te_url _ words_utf8 h.te_url
    (said_utf8 SelectorsAreUtf8 timelines_data name.Timelines c.timelines _ timelines_utf8 h.timelines
    (said_utf8 IsUtf8 string name.TsUrl c.ts_url _ words_utf8 h.ts_url
    (said_utf8 IsUtf8 string name.WcUrl c.wc_url no_members words_utf8 h.wc_url tt))))))))

-- so a message's text is read as the change that was written
pub message_reads : (c : Change) → IsUtf8Change c → EachOf RatesAreInRange c.timelines
    → message_of (change_text c) ≡ Ok c
message_reads c utf8 rates =
    let plain = plain_change c rates in
    let told : Data = object (change_members c) in
    let members = object_compact told plain (shallow_change c) (change_utf8 c utf8) (change_ordered c) in
    message_back c (change_text c) rates (ap object_of (sym (text_is c)) ∙ members)
