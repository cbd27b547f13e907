-- What a command reads of an object.
use Rattle.std.specs.Prelude.{ℕ, List, map}
use Rattle.std.specs.Prelude.{Option, None, Some}
use Rattle.std.specs.FinMap as finmap
use Rattle.ho_base.specs.declared.numbers.Kind.{Kind}
use Rattle.ho_events.specs.File.{FileState}
use Rattle.ho_events.specs.Session.{SessionState, Listed, files_of}

-- a file as its session lists it
pub record Reference : Type 0 where
  pub token : ℕ
  pub file : ℕ
  pub handle : ℕ

-- what may be read: a file's kind and order, a session's files in rising tokens, or nothing
pub data Content : Type 0 where
  Plain : Content
  OfFile : Kind → ℕ → Content
  OfFiles : List Reference → Content

abbrev pub file_content : Option (Option FileState) → Content
file_content None = Plain
file_content (Some None) = Plain
file_content (Some (Some f)) = OfFile f.kind f.order

abbrev pub reference_of : ℕ × Listed → Reference
reference_of e = record { token = e.0; file = e.1.file; handle = e.1.handle }

abbrev pub session_content : Option SessionState → Content
session_content None = Plain
session_content (Some s) = OfFiles (map reference_of (finmap.entries (files_of s)))
