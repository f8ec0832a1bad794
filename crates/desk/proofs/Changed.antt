-- What a desk holds after changes: each change moves its own part, and every other part, the key and the sizes stay. Assumes nothing.
use Prim.Native.Nat.{ℕ, ◌+◌, ◌-◌, ◌≤◌, ◌<◌}
use mathlib.Core.Path.{◌≡◌, refl, sym, ap, subst, ◌∙◌}
use mathlib.Core.Logic.{◌⊎◌, inl, inr, ⊎_elim}
use mathlib.Core.List.{List, [], ◌∷◌, ◌++◌}
use native.Mathlib.Omega.{arith}
use lib.ListN.{length, get_or, set, length-append}
use lib.Seq.{get_or-set_same}
use Rattle.words.specs.Bytes.{part, splice}
use Rattle.words.specs.Numbers.{bytes_of}
use Rattle.words.proofs.Splice.{part-splice}
use Rattle.words.proofs.Numbers.{length-bytes_of, number-ext}
use Rattle.sizes.specs.Sizes.{key_len, digest_len, place_len}
use Rattle.slots.specs.Slots.{Block}
use Rattle.desk.specs.declared.Shape.{Shape}
use Rattle.desk.specs.Layout.{b_at, c_at, c_len, d_at, e_at, e_len, shape_len, body_c, body_d, body_e, height_at, slots_at, room_at, status_at, written_at, zero_at, ids_at, ids_of, room_of, shape_of, root_at, place_at}
use Rattle.desk.specs.Readers.{sizes_of, status_of, written_of, key_of, root_of}
use Rattle.desk.specs.Status.{at_status}
use Rattle.desk.specs.Changes.{with_request, with_place, with_root, with_stash, stash_bytes}
use Rattle.desk.specs.Parts.{Parts, parts_of, to_status, to_request, to_place, to_root, to_stash}
use Rattle.desk.proofs.Outside.{Outside, set-outside, splice-outside, part-outside, drop-outside, part-splice-inside, drop-splice-end}

-- the same length, contents, sizes, zero byte and key
pub record Same (xs ys : List ℕ) : Type 0 where
  pub size : length ys ≡ length xs
  pub low : (i : ℕ) → i < status_at → get_or ys i 0 ≡ get_or xs i 0
  pub high : (i : ℕ) → zero_at ≤ i → i < b_at → get_or ys i 0 ≡ get_or xs i 0
  pub key : key_of ys ≡ key_of xs

-- ys has the parts v, and all else as the desk xs has it
pub record Changed (xs ys : List ℕ) (v : Parts) : Type 0 where
  pub same : Same xs ys
  pub status : status_of ys ≡ v.status
  pub written : written_of ys ≡ v.written
  pub root : root_of ys ≡ v.root
  pub request : body_c (shape_of xs) ys ≡ v.request
  pub places : body_d (shape_of xs) ys ≡ v.places
  pub stash : body_e (shape_of xs) ys ≡ v.stash

pub unchanged : (xs : List ℕ) → Changed xs xs (parts_of xs)
unchanged xs =
    record {
      same = record { size = refl; low = λ i h. refl; high = λ i h k. refl; key = refl };
      status = refl;
      written = refl;
      root = refl;
      request = refl;
      places = refl;
      stash = refl;
    }

-- ---- the sizes stay

module _ {xs ys : List ℕ} (c : Same xs ys) where
  pub same-ids : ids_of ys ≡ ids_of xs
  same-ids = number-ext 2 ys xs ids_at ids_at (λ i h. c.high (ids_at + i) (omega arith) (omega arith))

  pub same_room : room_of ys ≡ room_of xs
  same_room = c.low room_at (omega arith)

  pub same_shape : shape_of ys ≡ shape_of xs
  same_shape = rw (same-ids, same_room)

  pub same-sizes : sizes_of ys ≡ sizes_of xs
  same-sizes = rw (c.low height_at (omega arith), c.low slots_at (omega arith))

-- ---- the changes, of a desk with its own length

module _ {xs ys : List ℕ} {v : Parts} (w : length xs ≡ shape_len (shape_of xs)) (c : Changed xs ys v) where
  abbrev h : Shape
  h = shape_of xs

  long : length ys ≡ shape_len h
  long = c.same.size ∙ w

  -- what a change from a up to e leaves
  module _ {a e : ℕ} {zs : List ℕ} (o : Outside a e ys zs) where
    off-same : status_at ≤ a → (e ≤ zero_at) ⊎ (root_at ≤ a) → Same xs zs
    off-same l k =
        let m = long in
        record {
          size = o.size ∙ c.same.size;
          low = λ i g. o.off i (inl (omega arith)) ∙ c.same.low i g;
          high = λ i g f. o.off i (⊎_elim (λ j. inr (omega arith)) (λ j. inl (omega arith)) k) ∙ c.same.high i g f;
          key = part-outside o b_at key_len (omega arith) (⊎_elim (λ j. inr (omega arith)) (λ j. inl (omega arith)) k) ∙ c.same.key;
        }

    off-status : (status_at < a) ⊎ (e ≤ status_at) → status_of zs ≡ v.status
    off-status k = o.off status_at k ∙ c.status

    off-written : (written_at < a) ⊎ (e ≤ written_at) → written_of zs ≡ v.written
    off-written k = o.off written_at k ∙ c.written

    off-root : (c_at h ≤ a) ⊎ (e ≤ root_at) → root_of zs ≡ v.root
    off-root k = let m = long in part-outside o root_at digest_len (omega arith) (⊎_elim (λ j. inl (omega arith)) (λ j. inr (omega arith)) k) ∙ c.root

    off-request : (d_at h ≤ a) ⊎ (e ≤ c_at h) → body_c h zs ≡ v.request
    off-request k =
        let m = long in
        part-outside o (c_at h) (d_at h - c_at h) (omega arith) (⊎_elim (λ j. inl (omega arith)) (λ j. inr (omega arith)) k) ∙ c.request

    off-places : (e_at h ≤ a) ⊎ (e ≤ d_at h) → body_d h zs ≡ v.places
    off-places k =
        let m = long in
        part-outside o (d_at h) (e_at h - d_at h) (omega arith) (⊎_elim (λ j. inl (omega arith)) (λ j. inr (omega arith)) k) ∙ c.places

    off-stash : e ≤ e_at h → body_e h zs ≡ v.stash
    off-stash k = drop-outside o (e_at h) k ∙ c.stash

  pub status-changed : (s : ℕ) → Changed xs (at_status s ys) (to_status s v)
  unfolding at_status
  status-changed s =
      let o = set-outside ys status_at s in
      let m = long in
      record {
        same = off-same o (omega arith) (inl (omega arith));
        status = get_or-set_same ys status_at s 0 (omega arith);
        written = off-written o (inr (omega arith));
        root = off-root o (inr (omega arith));
        request = off-request o (inr (omega arith));
        places = off-places o (inr (omega arith));
        stash = off-stash o (omega arith);
      }

  pub request-changed : (q : List ℕ) → length q ≡ c_len h → Changed xs (with_request q ys) (to_request q v)
  unfolding with_request
  request-changed q l =
      let m = long in
      let o = splice-outside ys (c_at h) q (omega arith) in
      let e : d_at h - c_at h ≡ length q = omega arith in
      subst (λ (g : Shape). Changed xs (splice ys (c_at g) q) (to_request q v)) (sym (same_shape c.same))
      (record {
        same = off-same o (omega arith) (inr (omega arith));
        status = off-status o (inl (omega arith));
        written = off-written o (inl (omega arith));
        root = off-root o (inl (omega arith));
        request = ap (part (splice ys (c_at h) q) (c_at h)) e ∙ part-splice ys (c_at h) q (omega arith);
        places = off-places o (inr (omega arith));
        stash = off-stash o (omega arith);
      })

  pub place-changed : (id leaf mark : ℕ) → 1 ≤ id → id ≤ ids_of xs → Changed xs (with_place id leaf mark ys) (to_place id leaf mark v)
  unfolding with_place
  place-changed id leaf mark a b =
      let m = long in
      let p : List ℕ = bytes_of 2 leaf ++ (mark ∷ []) in
      let l : length p ≡ place_len = simp (length-append, length-bytes_of) in
      let o = splice-outside ys (d_at h + place_at id) p (omega arith) in
      subst (λ (g : Shape). Changed xs (splice ys (d_at g + place_at id) p) (to_place id leaf mark v)) (sym (same_shape c.same))
      (record {
        same = off-same o (omega arith) (inr (omega arith));
        status = off-status o (inl (omega arith));
        written = off-written o (inl (omega arith));
        root = off-root o (inl (omega arith));
        request = off-request o (inl (omega arith));
        places = part-splice-inside ys (d_at h) (e_at h - d_at h) (place_at id) p (omega arith) (omega arith) ∙ ap (λ (d : List ℕ). splice d (place_at id) p) c.places;
        stash = off-stash o (omega arith);
      })

  pub stash-changed : (bs : List Block) → length (stash_bytes h bs) ≡ e_len h → Changed xs (with_stash bs ys) (to_stash h bs v)
  unfolding with_stash
  stash-changed bs l =
      let m = long in
      let o = splice-outside ys (e_at h) (stash_bytes h bs) (omega arith) in
      subst (λ (g : Shape). Changed xs (splice ys (e_at g) (stash_bytes g bs)) (to_stash h bs v)) (sym (same_shape c.same))
      (record {
        same = off-same o (omega arith) (inr (omega arith));
        status = off-status o (inl (omega arith));
        written = off-written o (inl (omega arith));
        root = off-root o (inl (omega arith));
        request = off-request o (inl (omega arith));
        places = off-places o (inl (omega arith));
        stash = drop-splice-end ys (e_at h) (stash_bytes h bs) (omega arith);
      })

  -- the root digest, and root written
  digest-changed : (digest : List ℕ) → length digest ≡ digest_len
      → Changed xs (splice ys root_at digest) (record { status = v.status; written = v.written; root = digest; request = v.request; places = v.places; stash = v.stash })
  digest-changed digest l =
      let m = long in
      let o = splice-outside ys root_at digest (omega arith) in
      record {
        same = off-same o (omega arith) (inr (omega arith));
        status = off-status o (inl (omega arith));
        written = off-written o (inl (omega arith));
        root = ap (part (splice ys root_at digest) root_at) (sym l) ∙ part-splice ys root_at digest (omega arith);
        request = off-request o (inr (omega arith));
        places = off-places o (inr (omega arith));
        stash = off-stash o (omega arith);
      }

  written-changed : (n : ℕ)
      → Changed xs (set ys written_at n) (record { status = v.status; written = n; root = v.root; request = v.request; places = v.places; stash = v.stash })
  written-changed n =
      let m = long in
      let o = set-outside ys written_at n in
      record {
        same = off-same o (omega arith) (inl (omega arith));
        status = off-status o (inl (omega arith));
        written = get_or-set_same ys written_at n 0 (omega arith);
        root = off-root o (inr (omega arith));
        request = off-request o (inr (omega arith));
        places = off-places o (inr (omega arith));
        stash = off-stash o (omega arith);
      }

pub root-changed : {xs ys : List ℕ} {v : Parts} → length xs ≡ shape_len (shape_of xs) → Changed xs ys v → (digest : List ℕ) → length digest ≡ digest_len
    → Changed xs (with_root digest ys) (to_root digest v)
unfolding with_root
root-changed w c digest l = written-changed w (digest-changed w c digest l) 1
