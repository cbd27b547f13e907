-- The root of the tree and its child, from what their properties say.
use Rattle.std.proofs.Common.{◌≡◌, ℕ, ◌+◌, Bool, true, false, List, [], ◌∷◌, length, Option, Some, None, refl, sym, ap, ◌∙◌}
use Rattle.std.specs.Prelude.{◌&&◌, ◌==◌, nat_le, codes}
use Rattle.ho_base.specs.ShapeRule.{Layout}
use Rattle.fdt_blob.specs.Trees.{Property, Tree, properties_of, children_of, count_of, value_in, tree_in, same_name}
use Rattle.ho_world.specs.Frozen.{MOST_UPDATES}
use Rattle.record_frames.specs.Rules.{Version, version_1, versions}
use Rattle.record_frames.specs.Handover.{◌>>=◌, only_if, Root, Luo, COMPATIBLE, MEMORY_MAP, SCRATCH, LUO, UPDATE_NUMBER, SESSION_HEADER, BOUND_NAMES, number_of, version_of, shape_of, root_of, bounds_of, count_given, luo_of}
use Rattle.record_frames.specs.TreeRead.{has_word, number_in, bound_in, is_whole}

-- ---- the root

abbrev pub version_in : Option (List ℕ) → Option Version
version_in None = None
version_in (Some word) = version_of versions word

abbrev pub shape_in : ℕ → Option (List ℕ) → Option Layout
shape_in n None = None
shape_in n (Some areas) = shape_of n areas

-- the version that has the word
pub version_is : (w : Option (List ℕ)) (b : Bool) → has_word version_1.root w ≡ b → version_in w ≡ only_if b version_1
version_is None b e = ap (λ (x : Bool). only_if x version_1) e
version_is (Some word) b e = ap (λ (x : Bool). only_if x version_1) e

module _ (n : ℕ) where
  -- the steps as they are defined
  abbrev from_luo : Version → ℕ → Layout → Option Tree → Bool → Option Root
  from_luo v chunk shape l b = l >>= λ luo. only_if b (record { version = v; shape = shape; chunk = chunk; luo = luo })

  abbrev from_areas : Version → ℕ → Option (List ℕ) → Option Tree → Bool → Option Root
  from_areas v chunk a l b = a >>= λ areas. shape_of n areas >>= λ shape. from_luo v chunk shape l b

  abbrev from_map : Version → Option (List ℕ) → Option (List ℕ) → Option Tree → Bool → Option Root
  from_map v m a l b = m >>= λ value. number_of value >>= λ chunk. from_areas v chunk a l b

  abbrev from_word : Option (List ℕ) → Option (List ℕ) → Option (List ℕ) → Option Tree → Bool → Option Root
  from_word w m a l b = w >>= λ word. version_of versions word >>= λ v. from_map v m a l b

  -- the same from what the values say
  abbrev with_shape : Version → ℕ → Option Layout → Option Tree → Bool → Option Root
  with_shape v chunk s l b = s >>= λ shape. from_luo v chunk shape l b

  abbrev with_chunk : Version → Option ℕ → Option Layout → Option Tree → Bool → Option Root
  with_chunk v c s l b = c >>= λ chunk. with_shape v chunk s l b

  abbrev pub root_with : Option Version → Option ℕ → Option Layout → Option Tree → Bool → Option Root
  root_with v c s l b = v >>= λ version. with_chunk version c s l b

  same_areas : (v : Version) (chunk : ℕ) (a : Option (List ℕ)) (l : Option Tree) (b : Bool) → from_areas v chunk a l b ≡ with_shape v chunk (shape_in n a) l b
  same_areas v chunk None l b = refl
  same_areas v chunk (Some areas) l b = refl

  same_map : (v : Version) (m a : Option (List ℕ)) (l : Option Tree) (b : Bool) → from_map v m a l b ≡ with_chunk v (number_in m) (shape_in n a) l b
  same_map v None a l b = refl
  same_map v (Some value) a l b = at_number (number_of value)
    where
      at_number : (o : Option ℕ) → (o >>= λ chunk. from_areas v chunk a l b) ≡ with_chunk v o (shape_in n a) l b
      at_number None = refl
      at_number (Some chunk) = same_areas v chunk a l b

  same_word : (w m a : Option (List ℕ)) (l : Option Tree) (b : Bool) → from_word w m a l b ≡ root_with (version_in w) (number_in m) (shape_in n a) l b
  same_word None m a l b = refl
  same_word (Some word) m a l b = at_version (version_of versions word)
    where
      at_version : (o : Option Version) → (o >>= λ v. from_map v m a l b) ≡ root_with o (number_in m) (shape_in n a) l b
      at_version None = refl
      at_version (Some v) = same_map v m a l b

  steps : (t : Tree) → root_of versions n t
      ≡ from_word (value_in COMPATIBLE (properties_of t)) (value_in MEMORY_MAP (properties_of t)) (value_in SCRATCH (properties_of t)) (tree_in LUO (children_of t))
      (length (properties_of t) == 3 && count_of (children_of t) == 1)
  unfolding root_of
  steps t = refl

  -- the root, from what was found of its parts
  pub root_is : (t : Tree) (word : Bool) (c : Option ℕ) (s : Option Layout) (l : Option Tree) (b : Bool) → has_word version_1.root (value_in COMPATIBLE (properties_of t)) ≡ word
      → number_in (value_in MEMORY_MAP (properties_of t)) ≡ c → shape_in n (value_in SCRATCH (properties_of t)) ≡ s → tree_in LUO (children_of t) ≡ l
      → (length (properties_of t) == 3 && count_of (children_of t) == 1) ≡ b → root_of versions n t ≡ root_with (only_if word version_1) c s l b
  root_is t word c s l b has chunk shape luo count =
      let ps = properties_of t in
      let test : Bool = length ps == 3 && count_of (children_of t) == 1 in
      steps t ∙ same_word (value_in COMPATIBLE ps) (value_in MEMORY_MAP ps) (value_in SCRATCH ps) (tree_in LUO (children_of t)) test
      ∙ ap (λ (x : Option Version). root_with x (number_in (value_in MEMORY_MAP ps)) (shape_in n (value_in SCRATCH ps)) (tree_in LUO (children_of t)) test) (version_is (value_in COMPATIBLE ps) word has)
      ∙ ap (λ (x : Option ℕ). root_with (only_if word version_1) x (shape_in n (value_in SCRATCH ps)) (tree_in LUO (children_of t)) test) chunk
      ∙ ap (λ (x : Option Layout). root_with (only_if word version_1) c x (tree_in LUO (children_of t)) test) shape
      ∙ ap (λ (x : Option Tree). root_with (only_if word version_1) c s x test) luo
      ∙ ap (λ (x : Bool). root_with (only_if word version_1) c s l x) count

  abbrev no_root : Option Root
  no_root = None

  pub no_word : (t : Tree) → has_word version_1.root (value_in COMPATIBLE (properties_of t)) ≡ false → root_of versions n t ≡ None
  no_word t h =
      root_is t false (number_in (value_in MEMORY_MAP (properties_of t))) (shape_in n (value_in SCRATCH (properties_of t))) (tree_in LUO (children_of t))
      (length (properties_of t) == 3 && count_of (children_of t) == 1) h refl refl refl refl

  pub no_chunk : (t : Tree) → has_word version_1.root (value_in COMPATIBLE (properties_of t)) ≡ true → number_in (value_in MEMORY_MAP (properties_of t)) ≡ None → root_of versions n t ≡ None
  no_chunk t h c =
      root_is t true None (shape_in n (value_in SCRATCH (properties_of t))) (tree_in LUO (children_of t)) (length (properties_of t) == 3 && count_of (children_of t) == 1) h c refl refl refl

  pub no_shape : (t : Tree) (chunk : ℕ) → has_word version_1.root (value_in COMPATIBLE (properties_of t)) ≡ true → number_in (value_in MEMORY_MAP (properties_of t)) ≡ Some chunk
      → shape_in n (value_in SCRATCH (properties_of t)) ≡ None → root_of versions n t ≡ None
  no_shape t chunk h c s = root_is t true (Some chunk) None (tree_in LUO (children_of t)) (length (properties_of t) == 3 && count_of (children_of t) == 1) h c s refl refl

  pub no_child : (t : Tree) (chunk : ℕ) (shape : Layout) → has_word version_1.root (value_in COMPATIBLE (properties_of t)) ≡ true
      → number_in (value_in MEMORY_MAP (properties_of t)) ≡ Some chunk → shape_in n (value_in SCRATCH (properties_of t)) ≡ Some shape → tree_in LUO (children_of t) ≡ None
      → root_of versions n t ≡ None
  no_child t chunk shape h c s l = root_is t true (Some chunk) (Some shape) None (length (properties_of t) == 3 && count_of (children_of t) == 1) h c s l refl

  pub whole_root : (t : Tree) (chunk : ℕ) (shape : Layout) (luo : Tree) (b : Bool) → has_word version_1.root (value_in COMPATIBLE (properties_of t)) ≡ true
      → number_in (value_in MEMORY_MAP (properties_of t)) ≡ Some chunk → shape_in n (value_in SCRATCH (properties_of t)) ≡ Some shape → tree_in LUO (children_of t) ≡ Some luo
      → (length (properties_of t) == 3 && count_of (children_of t) == 1) ≡ b
      → root_of versions n t ≡ only_if b (record { version = version_1; shape = shape; chunk = chunk; luo = luo })
  whole_root t chunk shape luo b h c s l count = root_is t true (Some chunk) (Some shape) (Some luo) b h c s l count

-- ---- the frames of the bound records

abbrev with_frame : Option (List ℕ) → List (Option ℕ) → Option (List (Option ℕ))
with_frame None frames = Some (None ∷ frames)
with_frame (Some value) frames = number_of value >>= λ p. Some (Some p ∷ frames)

abbrev behind : Option (Option ℕ) → List (Option ℕ) → Option (List (Option ℕ))
behind b frames = b >>= λ p. Some (p ∷ frames)

frame_is : (v : Option (List ℕ)) (frames : List (Option ℕ)) → with_frame v frames ≡ behind (bound_in v) frames
frame_is None frames = refl
frame_is (Some value) frames = at_number (number_of value)
  where
    at_number : (o : Option ℕ) → (o >>= λ p. Some (Some p ∷ frames)) ≡ behind (o >>= λ p. Some (Some p)) frames
    at_number None = refl
    at_number (Some p) = refl

-- the frames, from what the value of each name says
abbrev pub all_of : List (Option (Option ℕ)) → Option (List (Option ℕ))
all_of [] = Some []
all_of (b ∷ bounds) = all_of bounds >>= λ frames. behind b frames

abbrev bounds_said : List (List ℕ) → List Property → List (Option (Option ℕ))
bounds_said [] ps = []
bounds_said (name ∷ names) ps = bound_in (value_in name ps) ∷ bounds_said names ps

bounds_are : (names : List (List ℕ)) (ps : List Property) → bounds_of names ps ≡ all_of (bounds_said names ps)
bounds_are [] ps = refl
bounds_are (name ∷ names) ps = at_rest (bounds_of names ps) ∙ ap (λ (o : Option (List (Option ℕ))). o >>= λ frames. behind (bound_in (value_in name ps)) frames) (bounds_are names ps)
  where
    at_rest : (o : Option (List (Option ℕ))) → (o >>= λ frames. with_frame (value_in name ps) frames) ≡ (o >>= λ frames. behind (bound_in (value_in name ps)) frames)
    at_rest None = refl
    at_rest (Some frames) = frame_is (value_in name ps) frames

abbrev dev0 : List ℕ
dev0 = codes "bound-dev0"

abbrev dev1 : List ℕ
dev1 = codes "bound-dev1"

abbrev dev2 : List ℕ
dev2 = codes "bound-dev2"

abbrev dev3 : List ℕ
dev3 = codes "bound-dev3"

-- the four of them
abbrev four : Option (Option ℕ) → Option (Option ℕ) → Option (Option ℕ) → Option (Option ℕ) → Option (List (Option ℕ))
four a b c d = all_of (a ∷ b ∷ c ∷ d ∷ [])

module _ (ps : List Property) where
  bounds_four : (a b c d : Option (Option ℕ)) → bound_in (value_in dev0 ps) ≡ a → bound_in (value_in dev1 ps) ≡ b → bound_in (value_in dev2 ps) ≡ c → bound_in (value_in dev3 ps) ≡ d
      → bounds_of BOUND_NAMES ps ≡ four a b c d
  bounds_four a b c d ea eb ec ed =
      bounds_are BOUND_NAMES ps
      ∙ ap (λ (x : Option (Option ℕ)). four x (bound_in (value_in dev1 ps)) (bound_in (value_in dev2 ps)) (bound_in (value_in dev3 ps))) ea
      ∙ ap (λ (x : Option (Option ℕ)). four a x (bound_in (value_in dev2 ps)) (bound_in (value_in dev3 ps))) eb
      ∙ ap (λ (x : Option (Option ℕ)). four a b x (bound_in (value_in dev3 ps))) ec
      ∙ ap (λ (x : Option (Option ℕ)). four a b c x) ed

  none_0 : (b c d : Option (Option ℕ)) → four None b c d ≡ None
  none_0 b c None = refl
  none_0 b None (Some d) = refl
  none_0 None (Some c) (Some d) = refl
  none_0 (Some b) (Some c) (Some d) = refl

  none_1 : (a c d : Option (Option ℕ)) → four a None c d ≡ None
  none_1 a c None = refl
  none_1 a None (Some d) = refl
  none_1 a (Some c) (Some d) = refl

  none_2 : (a b d : Option (Option ℕ)) → four a b None d ≡ None
  none_2 a b None = refl
  none_2 a b (Some d) = refl

  pub no_dev0 : bound_in (value_in dev0 ps) ≡ None → bounds_of BOUND_NAMES ps ≡ None
  no_dev0 e = bounds_four None _ _ _ e refl refl refl ∙ none_0 (bound_in (value_in dev1 ps)) (bound_in (value_in dev2 ps)) (bound_in (value_in dev3 ps))

  pub no_dev1 : bound_in (value_in dev1 ps) ≡ None → bounds_of BOUND_NAMES ps ≡ None
  no_dev1 e = bounds_four _ None _ _ refl e refl refl ∙ none_1 (bound_in (value_in dev0 ps)) (bound_in (value_in dev2 ps)) (bound_in (value_in dev3 ps))

  pub no_dev2 : bound_in (value_in dev2 ps) ≡ None → bounds_of BOUND_NAMES ps ≡ None
  no_dev2 e = bounds_four _ _ None _ refl refl e refl ∙ none_2 (bound_in (value_in dev0 ps)) (bound_in (value_in dev1 ps)) (bound_in (value_in dev3 ps))

  pub no_dev3 : bound_in (value_in dev3 ps) ≡ None → bounds_of BOUND_NAMES ps ≡ None
  no_dev3 e = bounds_four _ _ _ None refl refl refl e

  pub four_bounds : (a b c d : Option ℕ) → bound_in (value_in dev0 ps) ≡ Some a → bound_in (value_in dev1 ps) ≡ Some b → bound_in (value_in dev2 ps) ≡ Some c
      → bound_in (value_in dev3 ps) ≡ Some d → bounds_of BOUND_NAMES ps ≡ Some (a ∷ b ∷ c ∷ d ∷ [])
  four_bounds a b c d ea eb ec ed = bounds_four (Some a) (Some b) (Some c) (Some d) ea eb ec ed

-- ---- the root's child

module _ (t : Tree) where
  abbrev ps : List Property
  ps = properties_of t

  abbrev luo_end : List ℕ → ℕ → ℕ → List (Option ℕ) → Option Luo
  luo_end word number header bounds =
      only_if (same_name version_1.luo word && nat_le 1 number && nat_le number MOST_UPDATES && count_of (children_of t) == 0 && length ps == 3 + count_given bounds)
      (record { number = number; header = header; bounds = bounds })

  -- the steps as they are defined
  abbrev from_bounds : List ℕ → ℕ → ℕ → Option (List (Option ℕ)) → Option Luo
  from_bounds word number header bs = bs >>= λ bounds. luo_end word number header bounds

  abbrev from_header : List ℕ → ℕ → Option (List ℕ) → Option (List (Option ℕ)) → Option Luo
  from_header word number h bs = h >>= λ value. number_of value >>= λ header. from_bounds word number header bs

  abbrev from_number : List ℕ → Option (List ℕ) → Option (List ℕ) → Option (List (Option ℕ)) → Option Luo
  from_number word m h bs = m >>= λ value. number_of value >>= λ number. from_header word number h bs

  -- the same from what the values say
  abbrev with_header : List ℕ → ℕ → Option ℕ → Option (List (Option ℕ)) → Option Luo
  with_header word number h bs = h >>= λ header. from_bounds word number header bs

  abbrev luo_with : Option (List ℕ) → Option ℕ → Option ℕ → Option (List (Option ℕ)) → Option Luo
  luo_with w m h bs = w >>= λ word. m >>= λ number. with_header word number h bs

  same_header : (word : List ℕ) (number : ℕ) (h : Option (List ℕ)) (bs : Option (List (Option ℕ))) → from_header word number h bs ≡ with_header word number (number_in h) bs
  same_header word number None bs = refl
  same_header word number (Some value) bs = refl

  same_luo : (w m h : Option (List ℕ)) (bs : Option (List (Option ℕ))) → (w >>= λ word. from_number word m h bs) ≡ luo_with w (number_in m) (number_in h) bs
  same_luo None m h bs = refl
  same_luo (Some word) None h bs = refl
  same_luo (Some word) (Some value) h bs = at_number (number_of value)
    where
      at_number : (o : Option ℕ) → (o >>= λ number. from_header word number h bs) ≡ (o >>= λ number. with_header word number (number_in h) bs)
      at_number None = refl
      at_number (Some number) = same_header word number h bs

  luo_steps : luo_of version_1 t ≡ (value_in COMPATIBLE ps >>= λ word. from_number word (value_in UPDATE_NUMBER ps) (value_in SESSION_HEADER ps) (bounds_of BOUND_NAMES ps))
  unfolding luo_of
  luo_steps = refl

  luo_is : (m h : Option ℕ) (bs : Option (List (Option ℕ))) → number_in (value_in UPDATE_NUMBER ps) ≡ m → number_in (value_in SESSION_HEADER ps) ≡ h → bounds_of BOUND_NAMES ps ≡ bs
      → luo_of version_1 t ≡ luo_with (value_in COMPATIBLE ps) m h bs
  luo_is m h bs em eh eb =
      luo_steps ∙ same_luo (value_in COMPATIBLE ps) (value_in UPDATE_NUMBER ps) (value_in SESSION_HEADER ps) (bounds_of BOUND_NAMES ps)
      ∙ ap (λ (x : Option ℕ). luo_with (value_in COMPATIBLE ps) x (number_in (value_in SESSION_HEADER ps)) (bounds_of BOUND_NAMES ps)) em
      ∙ ap (λ (x : Option ℕ). luo_with (value_in COMPATIBLE ps) m x (bounds_of BOUND_NAMES ps)) eh
      ∙ ap (λ (x : Option (List (Option ℕ))). luo_with (value_in COMPATIBLE ps) m h x) eb

  none_number : (w : Option (List ℕ)) (h : Option ℕ) (bs : Option (List (Option ℕ))) → luo_with w None h bs ≡ None
  none_number None h bs = refl
  none_number (Some word) h bs = refl

  none_header : (w : Option (List ℕ)) (number : ℕ) (bs : Option (List (Option ℕ))) → luo_with w (Some number) None bs ≡ None
  none_header None number bs = refl
  none_header (Some word) number bs = refl

  none_bounds : (w : Option (List ℕ)) (number header : ℕ) → luo_with w (Some number) (Some header) None ≡ None
  none_bounds None number header = refl
  none_bounds (Some word) number header = refl

  at_word : (w : Option (List ℕ)) (number header : ℕ) (bounds : List (Option ℕ)) (b : Bool) → has_word version_1.luo w ≡ b
      → luo_with w (Some number) (Some header) (Some bounds)
      ≡ only_if (b && nat_le 1 number && nat_le number MOST_UPDATES && count_of (children_of t) == 0 && length ps == 3 + count_given bounds)
      (record { number = number; header = header; bounds = bounds })
  at_word None number header bounds b e =
      ap (λ (x : Bool). only_if (x && nat_le 1 number && nat_le number MOST_UPDATES && count_of (children_of t) == 0 && length ps == 3 + count_given bounds)
      (record { number = number; header = header; bounds = bounds })) e
  at_word (Some word) number header bounds b e =
      ap (λ (x : Bool). only_if (x && nat_le 1 number && nat_le number MOST_UPDATES && count_of (children_of t) == 0 && length ps == 3 + count_given bounds)
      (record { number = number; header = header; bounds = bounds })) e

  pub no_number : number_in (value_in UPDATE_NUMBER ps) ≡ None → luo_of version_1 t ≡ None
  no_number e = luo_is None (number_in (value_in SESSION_HEADER ps)) (bounds_of BOUND_NAMES ps) e refl refl ∙ none_number (value_in COMPATIBLE ps) (number_in (value_in SESSION_HEADER ps)) (bounds_of BOUND_NAMES ps)

  pub no_header : (number : ℕ) → number_in (value_in UPDATE_NUMBER ps) ≡ Some number → number_in (value_in SESSION_HEADER ps) ≡ None → luo_of version_1 t ≡ None
  no_header number e h = luo_is (Some number) None (bounds_of BOUND_NAMES ps) e h refl ∙ none_header (value_in COMPATIBLE ps) number (bounds_of BOUND_NAMES ps)

  pub no_bounds : (number header : ℕ) → number_in (value_in UPDATE_NUMBER ps) ≡ Some number → number_in (value_in SESSION_HEADER ps) ≡ Some header → bounds_of BOUND_NAMES ps ≡ None
      → luo_of version_1 t ≡ None
  no_bounds number header e h b = luo_is (Some number) (Some header) None e h b ∙ none_bounds (value_in COMPATIBLE ps) number header

  pub no_luo_word : (number header : ℕ) (bounds : List (Option ℕ)) → number_in (value_in UPDATE_NUMBER ps) ≡ Some number → number_in (value_in SESSION_HEADER ps) ≡ Some header
      → bounds_of BOUND_NAMES ps ≡ Some bounds → has_word version_1.luo (value_in COMPATIBLE ps) ≡ false → luo_of version_1 t ≡ None
  no_luo_word number header bounds e h b w = luo_is (Some number) (Some header) (Some bounds) e h b ∙ at_word (value_in COMPATIBLE ps) number header bounds false w

  pub whole_luo : (number header : ℕ) (bounds : List (Option ℕ)) (whole : Bool) → number_in (value_in UPDATE_NUMBER ps) ≡ Some number → number_in (value_in SESSION_HEADER ps) ≡ Some header
      → bounds_of BOUND_NAMES ps ≡ Some bounds → has_word version_1.luo (value_in COMPATIBLE ps) ≡ true
      → is_whole number (count_of (children_of t)) (length ps) (count_given bounds) ≡ whole
      → luo_of version_1 t ≡ only_if whole (record { number = number; header = header; bounds = bounds })
  whole_luo number header bounds whole e h b w test =
      luo_is (Some number) (Some header) (Some bounds) e h b ∙ at_word (value_in COMPATIBLE ps) number header bounds true w
      ∙ ap (λ (x : Bool). only_if x (record { number = number; header = header; bounds = bounds })) test

  -- the counts as they were counted
  pub whole_told : (number : ℕ) (bounds : List (Option ℕ)) (children properties given : ℕ) (whole : Bool) → children ≡ count_of (children_of t) → properties ≡ length ps → given ≡ count_given bounds
      → is_whole number children properties given ≡ whole → is_whole number (count_of (children_of t)) (length ps) (count_given bounds) ≡ whole
  whole_told number bounds children properties given whole ec ep eg e =
      ap (λ (x : ℕ). is_whole number x (length ps) (count_given bounds)) (sym ec) ∙ ap (λ (x : ℕ). is_whole number children x (count_given bounds)) (sym ep)
      ∙ ap (λ (x : ℕ). is_whole number children properties x) (sym eg) ∙ e
