-- A reader's fields as contracts see them, and what they keep.
use Rattle.std.specs.Prelude.{◌≡◌, ◌+◌, ◌≤◌, length, vec_len}
use Rattle.hc_names.specs.declared.TheConstants.{MAX_NAMES}
use Rattle.hc_script.specs.Reader.{Reader}
use Rattle.hc_script.specs.declared.reader.ScriptReader.TheInside.{Inside}
use Rattle.hc_lines.specs.declared.limits.TheConstants.{MAX_BYTES, MAX_LINE, PIECE}

abbrev pub reader_of : Inside → Reader
reader_of fields = record {
  at = record { names = fields.names; lines = fields.lines; bytes = fields.used };
  pending = fields.buffer;
  phase = fields.phase;
}

-- the lines so far lie within the bytes that a script may have, and no line is empty; the names fit,
-- and no more is held than a line and a piece
pub record IsReader (fields : Inside) : Type 0 where
  pub within : fields.used ≤ MAX_BYTES
  pub lines : fields.lines ≤ fields.used
  pub names : length fields.names ≤ MAX_NAMES
  pub piece : vec_len fields.piece ≡ PIECE
  pub held : length fields.buffer ≤ MAX_LINE + PIECE
