-- Each call puts one property in, from the last name to the first.
use Rattle.std.proofs.Common.{◌∙◌, ap, ℕ, List}
use Rattle.serde_json.specs.Data.{string, Members}
use Rattle.serde_json.specs.View.{members_view}
use Rattle.css_cii.specs.Texts.{with_told, timelines_data}
use Rattle.css_cii.specs.declared.change.Told.{Told}
use Rattle.css_cii.specs.declared.name.CiiName.{CiiName}
use Rattle.css_cii.specs.declared.name.CiiName.TheVariants as name
use Rattle.css_cii.proofs.RoundTrips.{in_order0}
use Rattle.css_cii.proofs.writing.change_map.Goals as goal

-- the members with a text more
abbrev words : CiiName → Told (List ℕ) → Members → Members
words property told members = with_told string property told members

pub returns-clause-members : goal.returns-clause-members
returns-clause-members c =
    let change = c.args.change.now in
    c.in_ok-tell_words-8.ensures
    ∙ ap (words name.ContentId change.content_id) (c.in_ok-tell_words-7.ensures
    ∙ ap (words name.ContentIdStatus change.content_id_status) (c.in_ok-tell_words-6.ensures
    ∙ ap (words name.MrsUrl change.mrs_url) (c.in_ok-tell_words-5.ensures
    ∙ ap (words name.PresentationStatus change.presentation_status) (c.in_ok-tell_words-4.ensures
    ∙ ap (words name.ProtocolVersion change.protocol_version) (c.in_ok-tell_words-3.ensures
    ∙ ap (words name.TeUrl change.te_url) (c.in_ok-tell_timelines.ensures.members
    ∙ ap (λ members. with_told timelines_data name.Timelines change.timelines members) (c.in_ok-tell_words-2.ensures
    ∙ ap (words name.TsUrl change.ts_url) (c.in_ok-tell_words.ensures
    ∙ ap (λ entries. words name.WcUrl change.wc_url (members_view entries)) c.new-members.ensures.empty))))))))
    ∙ in_order0 change
