-- The names of the properties in the messages.
use Rattle.std.specs.Prelude.{ℕ, List, codes}
use Rattle.css_cii.specs.declared.name.CiiName.{CiiName}
use Rattle.css_cii.specs.declared.name.CiiName.TheVariants.{ProtocolVersion, MrsUrl, ContentId, ContentIdStatus}
use Rattle.css_cii.specs.declared.name.CiiName.TheVariants.{PresentationStatus, WcUrl, TsUrl, TeUrl, Timelines}

-- the name of a property
abbrev pub json_name : CiiName → List ℕ
json_name ProtocolVersion = codes "protocolVersion"
json_name MrsUrl = codes "mrsUrl"
json_name ContentId = codes "contentId"
json_name ContentIdStatus = codes "contentIdStatus"
json_name PresentationStatus = codes "presentationStatus"
json_name WcUrl = codes "wcUrl"
json_name TsUrl = codes "tsUrl"
json_name TeUrl = codes "teUrl"
json_name Timelines = codes "timelines"
