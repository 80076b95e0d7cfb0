-- Conditions of a run's configuration.
use Rattle.std.specs.Prelude.{IfSome}
use Rattle.std.specs.Str.{IsUtf8}
use Rattle.css_tsmsg.specs.Presentations.{IsPresentation}
use Rattle.css_tsmsg.specs.declared.bound.Bound.{Bound}
use Rattle.css_companion.specs.Steps.{window}
use Rattle.css_drive.specs.declared.config.DriveConfig.{DriveConfig}

-- the two bounds are a presentation that has a text
abbrev pub IsWindow : Bound × Bound → Type 0
IsWindow bounds = IsPresentation (window bounds.0 bounds.1)

-- both texts of the companion are UTF-8, and its bounds, if it has any, are a presentation
pub record IsWritable (config : DriveConfig) : Type 0 where
  pub selector : IsUtf8 config.companion.selector
  pub stem : IsUtf8 config.companion.stem
  pub bounds : IfSome config.present IsWindow
