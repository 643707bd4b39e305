-- The fours that numbers are cut into, of which each is a record where its first number is that of a phase, and the
-- fours that records are made into.
use Rattle.std.specs.Prelude.{◌≡◌, ℕ, zero, suc, ◌+◌, ◌*◌, ◌<◌, ◌≤◌, Bool, true, false, cond, List, [], ◌∷◌, ◌++◌, map, length, take, Some, None, slice_index, slice_index_or, refl}
use Rattle.std.specs.List.{flat_map}
use Rattle.std.specs.Simd.{first_chunks}
use Rattle.std.proofs.Common.{ap, sym, ◌∙◌, drop, arith}
use Rattle.std.proofs.lemmas.List.{ext_get_or, get_or-take, get_or-drop, length-take-le}
use Rattle.std.proofs.lemmas.List.FromFn.{get_or-map-range_with_len, length-map-range_with_len}
use Rattle.std.proofs.lemmas.Option.{cond_some, none-some}
use Rattle.plants.specs.Numbers.{per_task, record_numbers, first_records, state_numbers, record_in, record_of, is_phase_at}
use Rattle.plants.specs.Records.{blank, at}
use Rattle.plants.specs.declared.state.Record.{Record}

four_number : (count : ℕ) (ns : List ℕ) (i j k : ℕ) → i < count → j < per_task → k ≡ per_task * i + j
    → slice_index (slice_index_or (first_chunks per_task count ns) i []) j ≡ slice_index ns k
four_number zero ns i j k lt b e = absurd (omega arith)
four_number (suc count) ns zero j k lt b e =
    let same : j ≡ k = omega arith in get_or-take per_task ns j 0 b ∙ ap (slice_index ns) same
four_number (suc count) ns (suc i) j k lt b e =
    let same : per_task + (per_task * i + j) ≡ k = omega arith in
    four_number count (drop per_task ns) i j (per_task * i + j) (omega arith) b refl
    ∙ get_or-drop per_task ns (per_task * i + j) 0 ∙ ap (slice_index ns) same

four_record : (count : ℕ) (ns : List ℕ) (i : ℕ) → i < count
    → record_in (slice_index_or (first_chunks per_task count ns) i []) ≡ cond (is_phase_at ns i) (Some (record_of ns i)) None
unfolding is_phase_at
four_record count ns i lt =
    let n0 = four_number count ns i 0 (per_task * i) lt (omega arith) (omega arith) in
    let n1 = four_number count ns i 1 (per_task * i + 1) lt (omega arith) refl in
    let n2 = four_number count ns i 2 (per_task * i + 2) lt (omega arith) refl in
    let n3 = four_number count ns i 3 (per_task * i + 3) lt (omega arith) refl in
    cc

-- four numbers that are a record
pub is_record : (count : ℕ) (ns : List ℕ) (i : ℕ) (r : Record) → i < count → record_in (slice_index_or (first_chunks per_task count ns) i []) ≡ Some r
    → (is_phase_at ns i ≡ true) × (record_of ns i ≡ r)
is_record count ns i r lt e = cond_some (is_phase_at ns i) (record_of ns i) r (sym (four_record count ns i lt) ∙ e)

cond_none : (b : Bool) (r : Record) → cond b (Some r) None ≡ None → b ≡ false
cond_none true r e = absurd (none-some r (sym e))
cond_none false r e = refl

-- and four that are none
pub no_record : (count : ℕ) (ns : List ℕ) (i : ℕ) → i < count → record_in (slice_index_or (first_chunks per_task count ns) i []) ≡ None → is_phase_at ns i ≡ false
no_record count ns i lt e = cond_none (is_phase_at ns i) (record_of ns i) (sym (four_record count ns i lt) ∙ e)

-- the fours of the first n records, one after the other
fours_taken : (n : ℕ) (rs : List Record) → flat_map (λ x. x) (take n (map record_numbers rs)) ≡ flat_map record_numbers (take n rs)
fours_taken zero rs = refl
fours_taken (suc n) [] = refl
fours_taken (suc n) (r ∷ rs) = ap (λ ns. record_numbers r ++ ns) (fours_taken n rs)

first_taken : (n : ℕ) (rs : List Record) → n ≤ length rs → take n rs ≡ first_records n rs
first_taken n rs enough =
    ext_get_or blank (take n rs) (first_records n rs) (length-take-le n rs enough ∙ sym (length-map-range_with_len (at rs) 0 n))
    (λ k lt.
    let below : k < n = omega (arith, length-take-le n rs enough) in
    get_or-take n rs k blank below ∙ sym (get_or-map-range_with_len (at rs) 0 n k k blank below (omega arith)))

pub flattened : (n : ℕ) (rs : List Record) → n ≤ length rs → flat_map (λ x. x) (take n (map record_numbers rs)) ≡ state_numbers n rs
unfolding state_numbers
flattened n rs enough = fours_taken n rs ∙ ap (flat_map record_numbers) (first_taken n rs enough)
