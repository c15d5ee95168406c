-- The words from a place, by the first of them.
use Rattle.std.proofs.Common.{◌≡◌, ℕ, zero, suc, ◌+◌, ◌-◌, ◌<◌, Bool, true, false, cond, not, List, [], ◌∷◌, length, take, drop, Some, None, Option, sym, refl, ap, ◌∙◌, ⊎_elim, add-zero, one-add, subst, nat_lt, ◌≤◌, slice_range, arith}
use Rattle.std.specs.List.{position_or_len, position}
use Rattle.std.specs.Option.{unwrap_or}
use Rattle.std.proofs.lemmas.List.Sums.{prefix_len-le-length}
use Rattle.std.proofs.lemmas.Bool.Decides.{nat_tests}
use Rattle.std.proofs.lemmas.List.{drop-drop, drop_all, length-drop, take_rest}
use Rattle.std.proofs.lemmas.Bool.{cases_Bool}
use Rattle.words.specs.declared.forms.Numeral.{Numeral}
use Rattle.words.specs.Forms.{blank, letters, numeral_value}
use Rattle.words.specs.Words.{letter, other, inked, classed, classed_by, cut, words_from, end_of}

-- how many blanks stand in front
abbrev pub blanks : List ℕ → ℕ
blanks bs = position_or_len (λ b. not (blank b)) bs

cut_skip : (k : ℕ) (bs : List ℕ) (p : ℕ) → cut k bs p ≡ cut 0 (drop k bs) (p + k)
cut_skip zero bs p = ap (cut 0 bs) (omega arith)
cut_skip (suc k) [] p = refl
cut_skip (suc k) (b ∷ bs) p = cut_skip k bs (p + 1) ∙ ap (cut 0 (drop k bs)) (omega arith)

module _ (b : ℕ) (bs : List ℕ) where
  blanks_yes : blank b ≡ true → blanks (b ∷ bs) ≡ suc (blanks bs)
  blanks_yes e = ap (λ x. cond (not (not x)) (1 + blanks bs) 0) e ∙ one-add (blanks bs)

  blanks_no : blank b ≡ false → blanks (b ∷ bs) ≡ 0
  blanks_no e = ap (λ x. cond (not (not x)) (1 + blanks bs) 0) e

  inked_yes : blank b ≡ true → inked (b ∷ bs) ≡ 0
  inked_yes e = ap (λ x. cond (not x) (1 + inked bs) 0) e

  inked_no : blank b ≡ false → inked (b ∷ bs) ≡ suc (inked bs)
  inked_no e = ap (λ x. cond (not x) (1 + inked bs) 0) e ∙ one-add (inked bs)

  cut_yes : (p : ℕ) → blank b ≡ true → cut 0 (b ∷ bs) p ≡ cut 0 bs (p + 1)
  cut_yes p e = ap (λ x. cond x (cut 0 bs (p + 1)) (classed (take (inked (b ∷ bs)) (b ∷ bs)) p ∷ cut (inked bs) bs (p + 1))) e

  cut_no : (p : ℕ) → blank b ≡ false → cut 0 (b ∷ bs) p ≡ classed (take (inked (b ∷ bs)) (b ∷ bs)) p ∷ cut (inked bs) bs (p + 1)
  cut_no p e = ap (λ x. cond x (cut 0 bs (p + 1)) (classed (take (inked (b ∷ bs)) (b ∷ bs)) p ∷ cut (inked bs) bs (p + 1))) e

pub cut_blanks : (bs : List ℕ) (p : ℕ) → cut 0 bs p ≡ cut 0 (drop (blanks bs) bs) (p + blanks bs)
cut_blanks [] p = refl
cut_blanks (b ∷ bs) p =
    ⊎_elim
    (λ e. cut_yes b bs p e ∙ cut_blanks bs (p + 1) ∙ ap (cut 0 (drop (blanks bs) bs)) (omega arith) ∙ ap (λ n. cut 0 (drop n (b ∷ bs)) (p + n)) (sym (blanks_yes b bs e)))
    (λ e. ap (cut 0 (b ∷ bs)) (sym (add-zero p)) ∙ ap (λ n. cut 0 (drop n (b ∷ bs)) (p + n)) (sym (blanks_no b bs e)))
    (cases_Bool (blank b))

pub cut_word : (bs : List ℕ) (p : ℕ) → 0 < inked bs → cut 0 bs p ≡ classed (take (inked bs) bs) p ∷ cut 0 (drop (inked bs) bs) (p + inked bs)
cut_word [] p h = absurd (omega arith)
cut_word (b ∷ bs) p h =
    ⊎_elim
    (λ e. absurd (omega (arith, inked_yes b bs e)))
    (λ e.
    cut_no b bs p e
    ∙ ap (λ ws. classed (take (inked (b ∷ bs)) (b ∷ bs)) p ∷ ws) (cut_skip (inked bs) bs (p + 1) ∙ ap (cut 0 (drop (inked bs) bs)) (omega arith) ∙ ap (λ n. cut 0 (drop n (b ∷ bs)) (p + n)) (sym (inked_no b bs e))))
    (cases_Bool (blank b))

pub cut_none : (bs : List ℕ) (p : ℕ) → blanks bs ≡ 0 → inked bs ≡ 0 → cut 0 bs p ≡ []
cut_none [] p e h = refl
cut_none (b ∷ bs) p e h =
    ⊎_elim (λ x. absurd (omega (arith, blanks_yes b bs x))) (λ x. absurd (omega (arith, inked_no b bs x))) (cases_Bool (blank b))

ink_after : (bs : List ℕ) → blanks bs < length bs → 0 < inked (drop (blanks bs) bs)
ink_after [] h = absurd (omega arith)
ink_after (b ∷ bs) h =
    ⊎_elim
    (λ e. let y = blanks_yes b bs e in subst (λ n. 0 < inked (drop n (b ∷ bs))) (sym y) (ink_after bs (omega arith)))
    (λ e. let i = inked_no b bs e in subst (λ n. 0 < inked (drop n (b ∷ bs))) (sym (blanks_no b bs e)) (omega arith))
    (cases_Bool (blank b))

-- what the search for a byte finds, by how many bytes stand before it
none_found : (m n : ℕ) → m ≤ n → None ≡ cond (nat_lt m n) (Some m) None → m ≡ n
none_found m n h e = grind (arith, nat_tests)

found : (k m n : ℕ) → Some k ≡ cond (nat_lt m n) (Some m) None → (k ≡ m) × (m < n)
found k m n e = grind (arith, nat_tests)

up_to : (m n : ℕ) → m ≤ n → unwrap_or (cond (nat_lt m n) (Some m) None) n ≡ m
up_to m n h = grind (arith, nat_tests)

-- the words from a place, by the first of them
module _ (text : List ℕ) (p : ℕ) where
  words_none : None ≡ position (λ b. not (blank b)) (drop p text) → words_from text p ≡ []
  words_none e =
      let all = none_found _ _ (prefix_len-le-length (λ b. not (not (blank b))) (drop p text)) e in
      cut_blanks (drop p text) p ∙ ap (λ l. cut 0 l (p + blanks (drop p text))) (drop_all (blanks (drop p text)) (drop p text) (omega arith))

  module _ (k : ℕ) (e : Some k ≡ position (λ b. not (blank b)) (drop p text)) where
    word_some : 0 < inked (drop k (drop p text))
    word_some = let h = found k _ _ e in subst (λ n. 0 < inked (drop n (drop p text))) (sym h.0) (ink_after (drop p text) h.1)

    words_more : words_from text p ≡ classed (take (inked (drop k (drop p text))) (drop k (drop p text))) (p + k) ∷ words_from text (p + k + inked (drop k (drop p text)))
    words_more =
        cut_blanks (drop p text) p ∙ ap (λ n. cut 0 (drop n (drop p text)) (p + n)) (sym (found k _ _ e).0)
        ∙ cut_word (drop k (drop p text)) (p + k) word_some
        ∙ ap (λ l. classed (take (inked (drop k (drop p text))) (drop k (drop p text))) (p + k) ∷ cut 0 l (p + k + inked (drop k (drop p text))))
        (ap (drop (inked (drop k (drop p text)))) (drop-drop k p text) ∙ drop-drop (inked (drop k (drop p text))) (p + k) text)

end_letter : (x : Bool) (bs : List ℕ) (p : ℕ) → end_of (cond x (letter bs p) (other bs p)) ≡ p + length bs
end_letter true bs p = refl
end_letter false bs p = refl

end_by : (o : Option Numeral) (bs : List ℕ) (p : ℕ) → end_of (classed_by o bs p) ≡ p + length bs
end_by (Some n) bs p = refl
end_by None bs p = end_letter (letters bs) bs p

pub end_classed : (bs : List ℕ) (p : ℕ) → end_of (classed bs p) ≡ p + length bs
end_classed bs p = end_by (numeral_value bs) bs p

-- the same of what is left of the text, and of what is left from the first word on
module _ (text left : List ℕ) (p : ℕ) (rest : left ≡ slice_range text p (length text)) where
  left_is : left ≡ drop p text
  left_is = rest ∙ take_rest text p

  pub no_word_left : None ≡ position (λ b. not (blank b)) left → words_from text p ≡ []
  no_word_left e = words_none text p (rw left_is at e)

  module _ (k n : ℕ) (e : Some k ≡ position (λ b. not (blank b)) left) where
    len_is : n ≡ unwrap_or (position blank (drop k left)) (length (drop k left)) → n ≡ inked (drop k left)
    len_is m = m ∙ up_to (inked (drop k left)) (length (drop k left)) (prefix_len-le-length (λ b. not (blank b)) (drop k left))

    some_left : n ≡ inked (drop k left) → (0 < n) × (n + (p + k) ≤ length text) × (words_from text p ≡ classed (take n (drop k left)) (p + k) ∷ words_from text (p + k + n))
    some_left m =
        let f = rw left_is at e in
        let some = word_some text p k f in
        let long = prefix_len-le-length (λ b. not (blank b)) (drop k (drop p text)) in
        rw (m, left_is) (some, omega (arith, length-drop k (drop p text), length-drop p text), words_more text p k f)

    pub word_left : (word : List ℕ) → word ≡ take (length left - k) (drop k left) → n ≡ unwrap_or (position blank word) (length word) → (0 < n) × (n ≤ length word) × (n + (p + k) ≤ length text) × (words_from text p ≡ classed (take n word) (p + k) ∷ words_from text (p + k + n))
    word_left word w m =
        let d : word ≡ drop k left = w ∙ take_rest left k in
        let m' = len_is (rw d at m) in
        let s = some_left m' in
        rw d (s.0, rw m' (prefix_len-le-length (λ b. not (blank b)) (drop k left)), s.1, s.2)
