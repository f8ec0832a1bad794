-- The run of a script: what each line does to the shelf's buffers, and what it adds to the listing. Assumes nothing.
use Rattle.sizes.specs.declared.Refusal.{Refusal}
use Rattle.std.specs.Prelude.{ℕ, ◌+◌, ◌^◌, ◌≤◌, ◌<◌, ◌≡◌, Bool, true, false, List, [], length, take, drop, Option, Some, None, Err, Ok, Result}
use Rattle.sizes.specs.Sizes.{InRange, record_len, most_ids}
use Rattle.formats.specs.Format.{FormatResult, format_of}
use Rattle.desk.specs.declared.Kind.{Kind}
use Rattle.requests.specs.Request.{Answered, RequestResult}
use Rattle.requests.specs.Request as requests
use Rattle.text.specs.Text.{bad_line}
use Rattle.setup.specs.declared.Store.{Store}
use Rattle.setup.specs.Setup.{store_of, start_good, start_leaves, most_shelf_height}
use Rattle.script.specs.declared.Request.{Request}
use Rattle.script.specs.Lines.{request_of, record_of}
use Rattle.listing.specs.Listing.{Wrote, most_row, row_of, format_row}
use Rattle.runs.specs.declared.run.Run.{Run}
use Rattle.runs.specs.declared.run.Run.TheVariants as run
use Rattle.runs.specs.Shelf.{key, Shelf, over, sizes_of, desk_len_of, tree_len_of, path_len_of, most_desk, most_tree, most_path, Lent}

-- where a run stands after a line, what was written, and what the shelf then holds
pub record Moved : Type 0 where
  pub run : Run
  pub text : List ℕ
  pub shelf : Shelf

abbrev pub moved : Run → List ℕ → Shelf → Moved
moved r t sh = record { run = r; text = t; shelf = sh }

-- ---- a line that can't be read

abbrev pub bad_step : Shelf → Moved
bad_step sh = moved run.Over bad_line sh

-- ---- the first line

abbrev pub first_step : Option Store → Shelf → Moved
first_step (Some x) sh = moved (run.Second x) [] sh
first_step None sh = bad_step sh

-- ---- the second line: the leaves are read, and the desk is formatted with them

abbrev pub with_leaves : ℕ → List ℕ → Shelf → Shelf
with_leaves n xs sh =
    record { desk = sh.desk; tree = sh.tree; path = sh.path; buffer = sh.buffer; leaves = over n sh.leaves (start_leaves (take n sh.leaves) xs) }

abbrev pub with_desk : ℕ → List ℕ → Shelf → Shelf
with_desk m new sh =
    record { desk = over m sh.desk new; tree = sh.tree; path = sh.path; buffer = sh.buffer; leaves = sh.leaves }

abbrev pub format_by : Result Unit Refusal → Store → Shelf → Moved
format_by (Err r) x sh = moved run.Over (format_row r) sh
format_by (Ok tt) x sh = moved (run.Ready x 0) [] sh

abbrev pub format_step : FormatResult → Store → Shelf → Moved
format_step f x sh = format_by f.answer x (with_desk (desk_len_of x) f.desk sh)

abbrev pub second_step : Bool → Store → List ℕ → Shelf → Moved
second_step true x xs sh =
    format_step
    (format_of (take (desk_len_of x) sh.desk) x.height x.slots x.room x.ids key (start_leaves (take x.ids sh.leaves) xs))
    x (with_leaves x.ids xs sh)
second_step false x xs sh = bad_step (with_leaves x.ids xs sh)

-- ---- a request

-- the leaf is shown if one was asked for
abbrev pub row_for : Answered → ℕ → Kind → ℕ → List ℕ → List ℕ
row_for (Err r) n kind id buffer = row_of n kind id None (Err r) buffer
row_for (Ok (l, f)) n kind id buffer = row_of n kind id (Some l) f buffer

-- the request over what the store has of the buffers, and what they hold after it
abbrev pub request_on : Store → Kind → ℕ → ℕ → List ℕ → Shelf → RequestResult
request_on x kind id leaf buffer sh =
    requests.request_of (take (desk_len_of x) sh.desk) (take (tree_len_of x) sh.tree) (take (path_len_of x) sh.path) buffer kind id leaf

abbrev pub after_request : RequestResult → Store → Shelf → Shelf
after_request q x sh =
    record {
      desk = over (desk_len_of x) sh.desk q.desk;
      tree = over (tree_len_of x) sh.tree q.tree;
      path = over (path_len_of x) sh.path q.path;
      buffer = q.buffer;
      leaves = sh.leaves;
    }

abbrev pub answer_step : RequestResult → Store → ℕ → Kind → ℕ → Shelf → Moved
answer_step q x k kind id sh = moved (run.Ready x k) (row_for q.answer k kind id q.buffer) (after_request q x sh)

abbrev pub request_step : Option Request → Store → ℕ → List ℕ → Shelf → Moved
request_step (Some q) x k xs sh = answer_step (request_on x q.kind q.id q.leaf (record_of (drop q.text xs)) sh) x (k + 1) q.kind q.id sh
request_step None x k xs sh = bad_step sh

-- ---- a line, by where the run stands

abbrev pub step_of : Run → List ℕ → Shelf → Moved
step_of run.First xs sh = first_step (store_of xs) sh
step_of (run.Second x) xs sh = second_step (start_good x.ids xs) x xs sh
step_of (run.Ready x k) xs sh = request_step (request_of xs) x k xs sh
step_of run.Over xs sh = moved run.Over [] sh

abbrev pub is_over : Run → Bool
is_over run.First = false
is_over (run.Second x) = false
is_over (run.Ready x k) = false
is_over run.Over = true

-- ---- the end of the script: the first or the second line is missing

abbrev pub end_text : Run → List ℕ
end_text run.First = bad_line
end_text (run.Second x) = bad_line
end_text (run.Ready x k) = []
end_text run.Over = []

-- ---- what the functions of a run ask for and leave

-- what a step comes to, of the buffers that it leaves
pub record Became (m : Moved) (out out' : List ℕ) (r : Run) (written : ℕ) (sh : Shelf) : Type 0 where
  pub run_is : r ≡ m.run
  pub shelf_is : sh ≡ m.shelf
  pub wrote : Wrote out 0 m.text out' written
  pub most : written ≤ most_row

-- the same of a request, before it is listed
pub record Answers (q : RequestResult) (x : Store) (sh : Shelf) (a : Answered) (sh' : Shelf) : Type 0 where
  pub answer_is : a ≡ q.answer
  pub shelf_is : sh' ≡ after_request q x sh

-- sizes that a first line gives, and such that format takes
pub record Given (x : Store) : Type 0 where
  pub height_high : x.height ≤ most_shelf_height
  pub ids_high : x.ids ≤ most_ids

pub record Roomy (x : Store) : Type 0 where
  pub range : InRange (sizes_of x)
  pub given : Given x

-- what is known of the sizes that a run stands with
abbrev pub Sound : Run → Type 0
Sound run.First = Unit
Sound (run.Second x) = Given x
Sound (run.Ready x k) = Roomy x
Sound run.Over = Unit

-- how many requests were read
abbrev pub count_of : Run → ℕ
count_of run.First = 0
count_of (run.Second x) = 0
count_of (run.Ready x k) = k
count_of run.Over = 0

-- what the second line's buffers have room for
pub record Second (x : Store) (desk leaves out : List ℕ) : Type 0 where
  pub ids_high : x.ids ≤ most_ids
  pub desk_most : most_desk ≤ length desk
  pub leaves_most : most_ids ≤ length leaves
  pub out_most : most_row ≤ length out

-- what a request's buffers have room for
pub record Holds (x : Store) (desk tree path : List ℕ) : Type 0 where
  pub roomy : Roomy x
  pub desk_most : most_desk ≤ length desk
  pub tree_most : most_tree ≤ length tree
  pub path_most : most_path ≤ length path

pub record Ready (x : Store) (k : ℕ) (desk tree path buffer out : List ℕ) : Type 0 where
  pub holds : Holds x desk tree path
  pub count_high : k + 1 < 2 ^ 64
  pub buffer_is : length buffer ≡ record_len
  pub out_most : most_row ≤ length out

-- what is known of a run between two lines
pub record Runs (r : Run) (sh : Shelf) (out : List ℕ) : Type 0 where
  pub sound : Sound r
  pub count_high : count_of r + 1 < 2 ^ 64
  pub lent : Lent sh out
