-- The inner writer got the front of the bytes.
use Rattle.css_devices.proofs.Pieces.{bounded, written}
use Rattle.css_devices.proofs.standard.PatientWriterWrite.write.Goals as goal

pub returns-clause-bound : goal.returns-clause-bound
returns-clause-bound g c =
    bounded c.piece_of.result.now c.args.bytes.now c.write.result c.piece_of.ensures c.write.ensures.bound

pub returns-clause-bytes : goal.returns-clause-bytes
returns-clause-bytes g c =
    written c.piece_of.result.now c.args.bytes.now _ _ c.write.result c.piece_of.ensures c.write.ensures.bound
    c.write.ensures.bytes
