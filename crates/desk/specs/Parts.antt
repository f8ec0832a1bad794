-- A desk by its parts: those that ask and finish change, and the changes of `Changes` and `Status` on them. Assumes nothing.
use Rattle.std.specs.Prelude.{ℕ, List, [], ◌∷◌, ◌++◌}
use Rattle.words.specs.Bytes.{splice}
use Rattle.words.specs.Numbers.{bytes_of}
use Rattle.slots.specs.Slots.{Block}
use Rattle.desk.specs.declared.Shape.{Shape}
use Rattle.desk.specs.Layout.{body_c, body_d, body_e, shape_of, place_at}
use Rattle.desk.specs.Readers.{status_of, written_of, root_of}
use Rattle.desk.specs.Changes.{stash_bytes}

pub record Parts : Type 0 where
  pub status : ℕ
  pub written : ℕ
  pub root : List ℕ
  pub request : List ℕ
  pub places : List ℕ
  pub stash : List ℕ

abbrev pub parts_of : List ℕ → Parts
parts_of desk =
    record {
      status = status_of desk;
      written = written_of desk;
      root = root_of desk;
      request = body_c (shape_of desk) desk;
      places = body_d (shape_of desk) desk;
      stash = body_e (shape_of desk) desk;
    }

abbrev pub to_status : ℕ → Parts → Parts
to_status s v = record { status = s; written = v.written; root = v.root; request = v.request; places = v.places; stash = v.stash }

abbrev pub to_request : List ℕ → Parts → Parts
to_request q v = record { status = v.status; written = v.written; root = v.root; request = q; places = v.places; stash = v.stash }

abbrev pub to_root : List ℕ → Parts → Parts
to_root digest v = record { status = v.status; written = 1; root = digest; request = v.request; places = v.places; stash = v.stash }

abbrev pub to_place : ℕ → ℕ → ℕ → Parts → Parts
to_place id leaf mark v =
    record {
      status = v.status;
      written = v.written;
      root = v.root;
      request = v.request;
      places = splice v.places (place_at id) (bytes_of 2 leaf ++ (mark ∷ []));
      stash = v.stash;
    }

abbrev pub to_stash : Shape → List Block → Parts → Parts
to_stash h bs v = record { status = v.status; written = v.written; root = v.root; request = v.request; places = v.places; stash = stash_bytes h bs }
