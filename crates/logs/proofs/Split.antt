-- The pieces of an input are its bytes, split at the line feeds, and no other pieces are.
use Rattle.std.proofs.Common.{◌≡◌, ℕ, zero, suc, ◌+◌, ◌<◌, eqb, List, [], ◌∷◌, length, get_or, sym, refl, ap, ◌∙◌, arith}
use Rattle.std.proofs.lemmas.Bool.{cond_both, eqb-true, eqb-false}
use Rattle.lines.specs.Spelling.{feed}
use Rattle.logs.specs.Pieces.{onto, pieces, joined, piece_at, Piece, EndsInFeed, Splits}
use Rattle.logs.specs.Log.{bytes_read, ReadInPieces}

splits_none : Splits [] []
splits_none = record { whole = refl; each = λ k h. absurd (omega arith); ends = λ k h. absurd (omega arith) }

-- a piece before others
each_more : (p : List ℕ) (ps : List (List ℕ)) → Piece p → ((k : ℕ) → k < length ps → Piece (piece_at ps k)) → (k : ℕ) → k < length (p ∷ ps) → Piece (piece_at (p ∷ ps) k)
each_more p ps first rest zero h = first
each_more p ps first rest (suc k) h = rest k (omega arith)

ends_more : (p : List ℕ) (ps : List (List ℕ)) → (0 < length ps → EndsInFeed p) → ((k : ℕ) → k + 1 < length ps → EndsInFeed (piece_at ps k)) → (k : ℕ) → k + 1 < length (p ∷ ps) → EndsInFeed (piece_at (p ∷ ps) k)
ends_more p ps first rest zero h = first (omega arith)
ends_more p ps first rest (suc k) h = rest k (omega arith)

-- one byte is a piece
lone : (b : ℕ) → Piece (b ∷ [])
lone b = record { some_byte = omega arith; feed_last = λ i h e. omega arith }

lone_ends : (b : ℕ) → b ≡ feed → EndsInFeed (b ∷ [])
lone_ends b f zero h = f
lone_ends b f (suc i) h = absurd (omega arith)

-- a line feed is a piece of its own before the others
splits_feed : (b : ℕ) (bs : List ℕ) (ps : List (List ℕ)) → b ≡ feed → Splits bs ps → Splits (b ∷ bs) ((b ∷ []) ∷ ps)
splits_feed b bs ps f s = record {
  whole = ap (λ x. b ∷ x) s.whole;
  each = each_more (b ∷ []) ps (lone b) s.each;
  ends = ends_more (b ∷ []) ps (λ _. lone_ends b f) s.ends;
}

-- another byte is added to the first piece, in front
feed_later : (b : ℕ) (p : List ℕ) → (b ≡ feed → ⊥) → Piece p → (i : ℕ) → i + 1 < length (b ∷ p) → get_or (b ∷ p) i 0 ≡ feed → ⊥
feed_later b p n h zero lt e = n e
feed_later b p n h (suc i) lt e = h.feed_last i (omega arith) e

longer : (b : ℕ) (p : List ℕ) → (b ≡ feed → ⊥) → Piece p → Piece (b ∷ p)
longer b p n h = record { some_byte = omega arith; feed_last = feed_later b p n h }

longer_ends : (b : ℕ) (p : List ℕ) → Piece p → EndsInFeed p → EndsInFeed (b ∷ p)
longer_ends b p h f zero e = absurd (omega (arith, h.some_byte))
longer_ends b p h f (suc i) e = f i (omega arith)

splits_onto : (b : ℕ) (bs : List ℕ) (ps : List (List ℕ)) → (b ≡ feed → ⊥) → Splits bs ps → Splits (b ∷ bs) (onto b ps)
splits_onto b bs [] n s = record {
  whole = ap (λ x. b ∷ x) s.whole;
  each = each_more (b ∷ []) [] (lone b) s.each;
  ends = λ k h. absurd (omega arith);
}
splits_onto b bs (p ∷ ps) n s = record {
  whole = ap (λ x. b ∷ x) s.whole;
  each = each_more (b ∷ p) ps (longer b p n (s.each 0 (omega arith))) (λ k h. s.each (suc k) (omega arith));
  ends = ends_more (b ∷ p) ps (λ h. longer_ends b p (s.each 0 (omega arith)) (s.ends 0 (omega arith))) (λ k h. s.ends (suc k) (omega arith));
}

splits : (bs : List ℕ) → Splits bs (pieces bs)
splits [] = splits_none
splits (b ∷ bs) =
    cond_both (eqb b feed) ((b ∷ []) ∷ pieces bs) (onto b (pieces bs)) (Splits (b ∷ bs))
    (λ e. splits_feed b bs (pieces bs) (eqb-true b feed e) (splits bs))
    (λ e. splits_onto b bs (pieces bs) (eqb-false b feed e) (splits bs))

-- no other list of pieces splits the bytes

-- the pieces after the first split the bytes after it
splits_rest : (all bs p : List ℕ) (ps : List (List ℕ)) → Splits all (p ∷ ps) → joined ps ≡ bs → Splits bs ps
splits_rest all bs p ps s e = record { whole = e; each = λ k h. s.each (suc k) (omega arith); ends = λ k h. s.ends (suc k) (omega arith) }

-- a first piece of two bytes and more is still a piece without its first byte
shorter : (b c : ℕ) (p : List ℕ) → Piece (b ∷ c ∷ p) → Piece (c ∷ p)
shorter b c p h = record { some_byte = omega arith; feed_last = λ i lt e. h.feed_last (suc i) (omega arith) e }

splits_shorter : (b c : ℕ) (all bs p : List ℕ) (ps : List (List ℕ)) → Splits all ((b ∷ c ∷ p) ∷ ps) → joined ((c ∷ p) ∷ ps) ≡ bs → Splits bs ((c ∷ p) ∷ ps)
splits_shorter b c all bs p ps s e = record {
  whole = e;
  each = each_more (c ∷ p) ps (shorter b c p (s.each 0 (omega arith))) (λ k h. s.each (suc k) (omega arith));
  ends = ends_more (c ∷ p) ps (λ h i q. s.ends 0 (omega arith) (suc i) (omega arith)) (λ k h. s.ends (suc k) (omega arith));
}

-- a byte that is not a line feed is a piece of its own only at the end
lone_last : (b : ℕ) (all : List ℕ) (ps : List (List ℕ)) → (b ≡ feed → ⊥) → Splits all ((b ∷ []) ∷ ps) → ps ≡ []
lone_last b all [] n s = refl
lone_last b all (p ∷ ps) n s = absurd (n (s.ends 0 (omega arith) 0 refl))

only : (bs : List ℕ) (ps : List (List ℕ)) → Splits bs ps → ps ≡ pieces bs
only [] [] s = refl
only [] ([] ∷ ps) s = absurd (omega (arith, (s.each 0 (omega arith)).some_byte))
only [] ((c ∷ p) ∷ ps) s = absurd (omega (arith, ap length s.whole))
only (b ∷ bs) [] s = absurd (omega (arith, ap length s.whole))
only (b ∷ bs) ([] ∷ ps) s = absurd (omega (arith, (s.each 0 (omega arith)).some_byte))
only (b ∷ bs) ((c ∷ []) ∷ ps) s =
    let whole = s.whole in
    let same : c ≡ b = cc in
    let rest : joined ps ≡ bs = cc in
    let after = only bs ps (splits_rest (b ∷ bs) bs (c ∷ []) ps s rest) in
    cond_both (eqb b feed) ((b ∷ []) ∷ pieces bs) (onto b (pieces bs)) (λ qs. (c ∷ []) ∷ ps ≡ qs)
    (λ _. ap (λ x. (x ∷ []) ∷ ps) same ∙ ap (λ qs. (b ∷ []) ∷ qs) after)
    (λ e.
    let none = lone_last c (b ∷ bs) ps (λ f. eqb-false b feed e (sym same ∙ f)) s in
    ap (λ x. (x ∷ []) ∷ ps) same ∙ ap (λ qs. (b ∷ []) ∷ qs) none ∙ ap (onto b) (sym none ∙ after))
only (b ∷ bs) ((c ∷ d ∷ p) ∷ ps) s =
    let whole = s.whole in
    let same : c ≡ b = cc in
    let rest : joined ((d ∷ p) ∷ ps) ≡ bs = cc in
    let after = only bs ((d ∷ p) ∷ ps) (splits_shorter c d (b ∷ bs) bs p ps s rest) in
    cond_both (eqb b feed) ((b ∷ []) ∷ pieces bs) (onto b (pieces bs)) (λ qs. (c ∷ d ∷ p) ∷ ps ≡ qs)
    (λ e. absurd ((s.each 0 (omega arith)).feed_last 0 (omega arith) (same ∙ eqb-true b feed e)))
    (λ _. ap (λ x. (x ∷ d ∷ p) ∷ ps) same ∙ ap (onto b) after)

pub read_in_pieces : (input : List ℕ) → ReadInPieces input
read_in_pieces input = record { split = pieces (bytes_read input); splits = splits (bytes_read input); only = only (bytes_read input); lines = refl }
