-- Which messages are valid.
use Rattle.std.specs.Prelude.{◌≡◌, ◌≤◌, None}
use Rattle.css_model.specs.declared.Message.{Message}
use Rattle.css_model.specs.Wire.{field_fault}

-- the type is one of the four, and an answer's fields are in range
pub record HasNoFault (message : Message) : Type 0 where
  pub message_type : message.message_type ≤ 3
  pub fields : field_fault message ≡ None
