-- The form of a claim's record, R49.
use Rattle.std.specs.Prelude.{ℕ, ◌+◌, ◌≤◌, ◌<◌, List}
use Rattle.little.specs.LittleEndian.{little_endian}
use Rattle.claims.specs.declared.form.Field.{Field}

-- R49: a record's width, and where its fields stand
pub record Form : Type 0 where
  pub width : ℕ
  pub m : Field
  pub a : Field
  pub estimate : Field
  pub n : Field
  pub depth : Field
  pub reserved : Field

-- R49: the record of 20 bytes
abbrev pub twenty : Form
twenty =
    record {
      width = 20;
      m = record { at = 0; bytes = 4 };
      a = record { at = 4; bytes = 4 };
      estimate = record { at = 8; bytes = 8 };
      n = record { at = 16; bytes = 2 };
      depth = record { at = 18; bytes = 1 };
      reserved = record { at = 19; bytes = 1 };
    }

-- R49: a field of the record that starts at a place
abbrev pub value_of : List ℕ → ℕ → Field → ℕ
value_of bytes start f = little_endian bytes (start + f.at) f.bytes

-- R49: a field that lies within a record's width, and has at most so many bytes
pub record FieldIn (width most : ℕ) (f : Field) : Type 0 where
  pub inside : f.at + f.bytes ≤ width
  pub narrow : f.bytes ≤ most

-- R49: a form that can be read: every field lies in the record, and fits the number that it is read to
pub record FormIn (form : Form) : Type 0 where
  pub some : 0 < form.width
  pub m : FieldIn form.width 4 form.m
  pub a : FieldIn form.width 4 form.a
  pub estimate : FieldIn form.width 8 form.estimate
  pub n : FieldIn form.width 4 form.n
  pub depth : FieldIn form.width 4 form.depth
  pub reserved : FieldIn form.width 8 form.reserved
