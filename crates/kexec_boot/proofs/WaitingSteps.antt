-- Sessions that are added to those that wait.
use Rattle.std.proofs.Common.{◌≡◌, ℕ, zero, suc, ◌+◌, ◌≤◌, ◌<◌, List, [], ◌∷◌, ◌++◌, map, length, sym, ap, ◌∙◌, arith, append_assoc}
use Rattle.std.specs.Prelude.{slice_index_or}
use Rattle.std.proofs.lemmas.List.{map-append, append-nil}
use Rattle.ho_base.specs.Objects.{session_no}
use Rattle.ho_base.specs.declared.limits.TheConstants.{FILES}
use Rattle.ho_base.specs.declared.numbers.FileNo.{FileNo}
use Rattle.ho_base.specs.declared.numbers.Token.{Token}
use Rattle.ho_events.specs.Session.{SessionState}
use Rattle.machine_core.specs.Kernels.{AreWaiting}
use Rattle.record_frames.specs.declared.carried.CarriedFile.{CarriedFile}
use Rattle.record_frames.specs.declared.carried.CarriedSession.{CarriedSession}
use Rattle.session_core.specs.SessionShown.{AreFiles}
use Rattle.session_core.specs.SessionValues.{SessionValue}
use Rattle.session_core.specs.Sessions.{fresh_incoming}
use Rattle.kexec_boot.specs.Files.{listed_from}
use Rattle.kexec_boot.specs.Waiting.{waiting_from}

abbrev pub starts : List SessionValue → List SessionState
starts xs = map (λ s. s.start) xs

pub waiting_more : (n : ℕ) (xs : List SessionValue) (s : SessionValue) → AreWaiting n xs → s.number ≡ session_no (n + length xs) → s.history ≡ [] → AreWaiting n (xs ++ s ∷ [])
waiting_more n [] s h number none = (number ∙ ap session_no (let e : n + 0 ≡ n = omega arith in e), none, tt)
waiting_more n (x ∷ xs) s h number none =
    (h.0, h.1, waiting_more (n + 1) xs s h.2 (number ∙ ap session_no (let e : n + suc (length xs) ≡ n + 1 + length xs = omega arith in e)) none)

-- no session is left
pub starts_none : (first : ℕ) (old : List SessionValue) (left : List CarriedSession) → left ≡ [] → starts old ≡ starts old ++ waiting_from first left
starts_none first old left e = sym (append-nil (starts old)) ∙ ap (λ l. starts old ++ waiting_from first l) (sym e)

-- one more session, and then the rest
pub starts_more : (first : ℕ) (old mid new : List SessionValue) (one : SessionValue) (s : CarriedSession) (rest left : List CarriedSession) → left ≡ s ∷ rest → mid ≡ old ++ one ∷ []
    → one.start ≡ fresh_incoming s.name (listed_from first s.files) → starts new ≡ starts mid ++ waiting_from (first + length s.files) rest → starts new ≡ starts old ++ waiting_from first left
starts_more first old mid new one s rest left e push start after =
    after
    ∙ ap (λ l. starts l ++ waiting_from (first + length s.files) rest) push
    ∙ ap (λ l. l ++ waiting_from (first + length s.files) rest) (map-append (λ (x : SessionValue). x.start) old (one ∷ []))
    ∙ append_assoc (starts old) (one.start ∷ []) (waiting_from (first + length s.files) rest)
    ∙ ap (λ x. starts old ++ (x ∷ waiting_from (first + length s.files) rest)) start
    ∙ ap (λ l. starts old ++ waiting_from first l) (sym e)

-- each listed file has a file number
pub are_files : (n : ℕ) (fs : List CarriedFile) → n + length fs ≤ FILES → AreFiles (listed_from n fs)
are_files n [] h = λ k d lt. absurd (omega (arith, lt))
are_files n (f ∷ fs) h = λ k d lt. at k d lt (are_files (n + 1) fs (omega (arith, h)))
  where
    at : (k : ℕ) (d : Token × FileNo × ℕ) → k < length (listed_from n (f ∷ fs)) → AreFiles (listed_from (n + 1) fs) → (slice_index_or (listed_from n (f ∷ fs)) k d).1.0 < FILES
    at zero d lt rest = omega (arith, h)
    at (suc k) d lt rest = rest k d (omega (arith, lt))
