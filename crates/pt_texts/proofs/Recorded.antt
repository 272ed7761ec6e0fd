-- Lines of a state are read as they are printed.
use Rattle.std.proofs.Common.{◌≡◌, ℕ, ◌^◌, ◌<◌, Bool, Result, Ok, Err, List, [], ◌∷◌, ◌++◌, decimal, codes, refl, ap, append_assoc, ◌∙◌, IfOk}
use Rattle.pt_signal.specs.declared.pid.Pid.{Pid}
use Rattle.pt_signal.specs.declared.ids.Ref.{Ref}
use Rattle.pt_signal.specs.declared.ids.Ids.{Ids}
use Rattle.pt_signal.specs.declared.reason.Reason.{Reason}
use Rattle.pt_signal.specs.Text.{pid_text, ref_text, ids_text, reason_text, yes_or_no_text}
use Rattle.pt_texts.specs.declared.parse.Refused.{Refused}
use Rattle.pt_texts.specs.declared.records.Record.{Record}
use Rattle.pt_texts.specs.declared.records.Record.TheVariants.{Head, Last, Clock, Seen, Lives, Waits, Linked, Watches, Watched, Ended, End}
use Rattle.pt_texts.specs.Text.{record_text, record_line}
use Rattle.pt_texts.specs.Steps.{before, pair}
use Rattle.pt_texts.specs.Numbers.{u8_at, u16_at, u32_at, u64_at}
use Rattle.pt_texts.specs.Readers.{pid_at, ref_at, ids_at, reason_at, yes_or_no_at, record_at, line_at}
use Rattle.pt_texts.specs.Fits.{FitsPid, FitsRef, FitsIds, FitsReason, FitsRecord}
use Rattle.pt_texts.specs.Parsing.{told_column, ReadsRecord}
use Rattle.pt_texts.proofs.Pieces.{Reads, Takes, Anything, before_reads, closed_reads, again_behind, pair_reads, none_takes, or_takes}
use Rattle.pt_texts.proofs.Decimals.{NoDigit}
use Rattle.pt_texts.proofs.Printed.{Fine, Blank, no_digit, spaced, u8_reads, u16_reads, u32_reads, u64_reads, pid_reads, ref_reads, ids_reads, reason_reads, yes_or_no_reads, item_reads}
use Rattle.pt_texts.proofs.Told.{AtEnd, ends, blank, stamped_reads}

desks_begun : Reads (λ (x : ℕ × Bool). (x.0 < 2 ^ 16) × Fine x.1) Anything (λ x. decimal x.0 ++ (codes " desks begun " ++ yes_or_no_text x.1)) (pair u16_at (before (codes " desks begun ") yes_or_no_at))
desks_begun = pair_reads _ _ _ _ u16_reads _ _ _ _ (before_reads _ _ _ _ yes_or_no_reads (codes " desks begun ")) (λ y r s. refl)

counts : Reads (λ (x : ℕ × (ℕ × Bool)). (x.0 < 2 ^ 64) × ((x.1.0 < 2 ^ 16) × Fine x.1.1)) Anything (λ x. decimal x.0 ++ (codes " events on " ++ (decimal x.1.0 ++ (codes " desks begun " ++ yes_or_no_text x.1.1)))) (pair u64_at (before (codes " events on ") (pair u16_at (before (codes " desks begun ") yes_or_no_at))))
counts = pair_reads _ _ _ _ u64_reads _ _ _ _ (before_reads _ _ _ _ desks_begun (codes " events on ")) (λ y r s. refl)

desk_stamp : Reads (λ (x : ℕ × ℕ). (x.0 < 2 ^ 8) × (x.1 < 2 ^ 64)) NoDigit (λ x. decimal x.0 ++ (codes " " ++ decimal x.1)) (pair u8_at (before (codes " ") u64_at))
desk_stamp = spaced _ _ _ _ u8_reads _ _ _ _ u64_reads (λ y. refl)

desk_pid : Reads (λ (x : ℕ × Pid). (x.0 < 2 ^ 8) × FitsPid x.1) Anything (λ x. decimal x.0 ++ (codes " " ++ pid_text x.1)) (pair u8_at (before (codes " ") pid_at))
desk_pid = spaced _ _ _ _ u8_reads _ _ _ _ pid_reads (λ y. refl)

pid_traps : Reads (λ (x : Pid × Bool). FitsPid x.0 × Fine x.1) Anything (λ x. pid_text x.0 ++ (codes " traps " ++ yes_or_no_text x.1)) (pair pid_at (before (codes " traps ") yes_or_no_at))
pid_traps = pair_reads _ _ _ _ pid_reads _ _ _ _ (before_reads _ _ _ _ yes_or_no_reads (codes " traps ")) (λ y r s. tt)

pid_ids : Reads (λ (x : Pid × Ids). FitsPid x.0 × FitsIds x.1) Blank (λ x. pid_text x.0 ++ (codes " " ++ ids_text x.1)) (pair pid_at (before (codes " ") ids_at))
pid_ids = spaced _ _ _ _ pid_reads _ _ _ _ ids_reads (λ y. tt)

ref_pid : Reads (λ (x : Ref × Pid). FitsRef x.0 × FitsPid x.1) Anything (λ x. ref_text x.0 ++ (codes " " ++ pid_text x.1)) (pair ref_at (before (codes " ") pid_at))
ref_pid = spaced _ _ _ _ ref_reads _ _ _ _ pid_reads (λ y. refl)

last_reason : Reads (λ (x : ℕ × Reason). (x.0 < 2 ^ 32) × FitsReason x.1) Blank (λ x. decimal x.0 ++ (codes " " ++ reason_text x.1)) (pair u32_at (before (codes " ") reason_at))
last_reason = spaced _ _ _ _ u32_reads _ _ _ _ reason_reads (λ y. refl)

pid_last_reason : Reads (λ (x : Pid × (ℕ × Reason)). FitsPid x.0 × ((x.1.0 < 2 ^ 32) × FitsReason x.1.1)) Blank (λ x. pid_text x.0 ++ (codes " to " ++ (decimal x.1.0 ++ (codes " " ++ reason_text x.1.1)))) (pair pid_at (before (codes " to ") (pair u32_at (before (codes " ") reason_at))))
pid_last_reason = pair_reads _ _ _ _ pid_reads _ _ _ _ (before_reads _ _ _ _ last_reason (codes " to ")) (λ y r s. tt)

digits_end : (r : List ℕ) → AtEnd r → NoDigit r
digits_end r s = no_digit r (blank r s)

pub record_reads : Reads FitsRecord AtEnd record_text record_at
unfolding record_text record_at
record_reads = record { takes = took; again = back }
  where
    took : Takes FitsRecord record_text record_at
    took =
        or_takes _ _ _ _ _ counts.takes (codes "state of ") (λ x. Head x.0 x.1.0 x.1.1) _ (λ x. simp (append_assoc) refl) (λ x f. (f.0, f.1.0))
        (or_takes _ _ _ _ _ stamped_reads.takes (codes "last ") Last _ (λ x. refl) (λ x f. f)
        (or_takes _ _ _ _ _ desk_stamp.takes (codes "clock ") (λ x. Clock x.0 x.1) _ (λ x. simp (append_assoc) refl) (λ x f. f)
        (or_takes _ _ _ _ _ desk_pid.takes (codes "seen ") (λ x. Seen x.0 x.1) _ (λ x. simp (append_assoc) refl) (λ x f. f)
        (or_takes _ _ _ _ _ u64_reads.takes (codes "end ") End _ (λ x. refl) (λ x f. f)
        (or_takes _ _ _ _ _ pid_traps.takes (codes "lives ") (λ x. Lives x.0 x.1) _ (λ x. simp (append_assoc) refl) (λ x f. f.0)
        (or_takes _ _ _ _ _ item_reads.takes (codes "waits ") Waits _ (λ x. refl) (λ x f. f)
        (or_takes _ _ _ _ _ pid_ids.takes (codes "linked ") (λ x. Linked x.0 x.1) _ (λ x. simp (append_assoc) refl) (λ x f. f)
        (or_takes _ _ _ _ _ ref_pid.takes (codes "watches ") (λ x. Watches x.0 x.1) _ (λ x. simp (append_assoc) refl) (λ x f. f)
        (or_takes _ _ _ _ _ ref_pid.takes (codes "watched ") (λ x. Watched x.0 x.1) _ (λ x. simp (append_assoc) refl) (λ x f. f)
        (or_takes _ _ _ _ _ pid_last_reason.takes (codes "ended ") (λ x. Ended x.0 x.1.0 x.1.1) _ (λ x. simp (append_assoc) refl) (λ x f. (f.0, f.1.0, f.1.1))
        (none_takes _ _)))))))))))

    back : (v : Record) (r : List ℕ) → FitsRecord v → AtEnd r → record_at (record_text v ++ r) ≡ Ok (v, r)
    back (Head n d b) r f s = again_behind _ _ _ _ counts record_at (codes "state of ") (λ x. Head x.0 x.1.0 x.1.1) (n, (d, b)) r (record_text (Head n d b) ++ r) (simp (append_assoc) refl) refl (f.0, (f.1, tt)) tt
    back (Last e) r f s = again_behind _ _ _ _ stamped_reads record_at (codes "last ") Last e r (record_text (Last e) ++ r) refl refl f s
    back (Clock d n) r f s = again_behind _ _ _ _ desk_stamp record_at (codes "clock ") (λ x. Clock x.0 x.1) (d, n) r (record_text (Clock d n) ++ r) (simp (append_assoc) refl) refl f (digits_end r s)
    back (Seen d p) r f s = again_behind _ _ _ _ desk_pid record_at (codes "seen ") (λ x. Seen x.0 x.1) (d, p) r (record_text (Seen d p) ++ r) (simp (append_assoc) refl) refl f tt
    back (Lives p b) r f s = again_behind _ _ _ _ pid_traps record_at (codes "lives ") (λ x. Lives x.0 x.1) (p, b) r (record_text (Lives p b) ++ r) (simp (append_assoc) refl) refl (f, tt) tt
    back (Waits i) r f s = again_behind _ _ _ _ item_reads record_at (codes "waits ") Waits i r (record_text (Waits i) ++ r) refl refl f (ends r s)
    back (Linked p ids) r f s = again_behind _ _ _ _ pid_ids record_at (codes "linked ") (λ x. Linked x.0 x.1) (p, ids) r (record_text (Linked p ids) ++ r) (simp (append_assoc) refl) refl f (blank r s)
    back (Watches m p) r f s = again_behind _ _ _ _ ref_pid record_at (codes "watches ") (λ x. Watches x.0 x.1) (m, p) r (record_text (Watches m p) ++ r) (simp (append_assoc) refl) refl f tt
    back (Watched m p) r f s = again_behind _ _ _ _ ref_pid record_at (codes "watched ") (λ x. Watched x.0 x.1) (m, p) r (record_text (Watched m p) ++ r) (simp (append_assoc) refl) refl f tt
    back (Ended p n why) r f s = again_behind _ _ _ _ pid_last_reason record_at (codes "ended ") (λ x. Ended x.0 x.1.0 x.1.1) (p, (n, why)) r (record_text (Ended p n why) ++ r) (simp (append_assoc) refl) refl (f.0, (f.1, f.2)) (blank r s)
    back (End n) r f s = again_behind _ _ _ _ u64_reads record_at (codes "end ") End n r (record_text (End n) ++ r) refl refl f (digits_end r s)

-- a line with its line feed
pub line_reads : Reads FitsRecord Anything record_line line_at
line_reads = closed_reads _ _ _ _ record_reads (10 ∷ []) (λ r. refl)

-- what is promised of reading a line
pub line_read : (text : List ℕ) (result : Result (Record × List ℕ) Refused) → result ≡ told_column text (line_at text) → ReadsRecord text result
line_read text result h = record {
  found = go (line_at text) refl result h;
  only = λ v rest f e. h ∙ ap (told_column text) (ap line_at e ∙ line_reads.again v rest f tt);
  column = h;
}
  where
    go : (r : Result (Record × List ℕ) ℕ) → line_at text ≡ r → (q : Result (Record × List ℕ) Refused) → q ≡ told_column text r → IfOk q (λ x. (text ≡ record_line x.0 ++ x.1) × FitsRecord x.0)
    go (Ok v) e (Ok w) k = let same : v ≡ w = cc in line_reads.takes text w (e ∙ ap Ok same)
    go (Ok v) e (Err x) k = absurd (cc)
    go (Err n) e (Ok w) k = absurd (cc)
    go (Err n) e (Err x) k = tt
