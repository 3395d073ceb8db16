-- What goes out of a script, and how far that tells.
use Rattle.std.proofs.Common.{◌≡◌, ◌≢◌, ◌⊎◌, inl, inr, ⊎_elim, ℕ, ◌+◌, ◌<◌, List, [], ◌∷◌, ◌++◌, length, take, drop, sym, ap, subst, ◌∙◌, append_assoc, append-nil, arith, length-append, length-take, take-append-drop}
use Rattle.std.specs.Io.KnownBytes.{Appends}
use Rattle.std.proofs.Math.Seq.{take-append_seam}
use Rattle.std.proofs.lemmas.List.{nil_from_length}
use Rattle.cache_base.specs.declared.status.Status.{Status}
use Rattle.cache_base.specs.declared.status.Status.TheVariants as status
use Rattle.cache_theory.specs.Command.{Command}
use Rattle.cache_theory.specs.Faulted.{AreFaults, fault_line, replies_but, unfaulted, with_next}
use Rattle.cache_theory.specs.Machine.{Machine}
use Rattle.cache_theory.specs.Session.{BeginsWith}
use Rattle.cache_theory.specs.Step.{after, step}
use Rattle.cache_theory.specs.Text.{AreSpoken, ScriptSpells, replies_text, reply_text}
use Rattle.cache_theory.proofs.Faults.FaultedCuts.{cut_is_told, fault_cut_is_told, front_is_told, whole_is_told}
use Rattle.cache_theory.proofs.Faults.FaultedOn.{faults_are_in_front}
use Rattle.cache_tool.specs.Script.{AreTaken, bad_line}
use Rattle.cache_tool.specs.ScriptProgress.{IsCutIn, TellsAcked}
use Rattle.cache_tool.specs.World.{Progress}
use Rattle.cache_tool.proofs.FaultedParts.{next_replies}

pub begins_more : (text more out : List ℕ) → BeginsWith text out → BeginsWith (text ++ more) out
begins_more text more out b = (b.0 ++ more, ap (λ l. l ++ more) b.1 ∙ append_assoc out b.0 more)

-- a prefix of a part, after what went before
begins_cut : (text first part rest : List ℕ) (n : ℕ) → text ≡ first ++ (part ++ rest) → BeginsWith text (first ++ take n part)
begins_cut text first part rest n is = (
  drop n part ++ rest,
  is ∙ ap (λ l. first ++ (l ++ rest)) (sym (take-append-drop n part)) ∙ ap (λ l. first ++ l) (append_assoc (take n part) (drop n part) rest)
      ∙ sym (append_assoc first (take n part) (drop n part ++ rest)),
)

-- a prefix behind which something is left is short, also of what goes on
shorter : (text out rest : List ℕ) → text ≡ out ++ rest → 0 < length rest → length out < length text
shorter text out rest is some = omega (arith, ap length is, length-append out rest, some)

short_of_more : (text more out : List ℕ) → length out < length text → length out < length (text ++ more)
short_of_more text more out short = omega (arith, short, length-append text more)

left_over : (part rest : List ℕ) (n : ℕ) → n < length part → 0 < length (drop n part ++ rest)
left_over part rest n short = omega (arith, short, length-append (drop n part) rest, length-append (take n part) (drop n part), ap length (take-append-drop n part), length-take n part)

-- of the commands `cs ++ rest` what was done are `ds ++ more`, of which the first are answered
module _ (m : Machine) (bytes : List ℕ) (before now : Progress) where
  -- the answers to the first commands
  pub tells_front : (cs rest ds more : List Command) (faults : List ℕ) (ended : Status) → AreSpoken (ds ++ more) → length ds ≡ length cs → length rest ≡ length more → AreFaults (length ds) faults
      → Appends before.taken now.taken (replies_but m ds faults)
      → (ended ≡ status.Done → rest ≡ []) → ended ≢ status.Script → ended ≢ status.Sink → (ended ≡ status.Source → AreTaken before.source.left now.source.left cs)
      → TellsAcked m bytes (cs ++ rest) (ds ++ more) ended (length ds) faults faults before now
  tells_front cs rest ds more faults ended spoken same others numbers out all unnamed unsunk taken =
      let goes = faults_are_in_front m ds more faults numbers in
      let begins : BeginsWith (replies_but m (ds ++ more) faults) (replies_but m ds faults) = (replies_text (after m (unfaulted faults ds)) more, goes.replies) in
      record {
        all = all_acked;
        replies = record {
          out = replies_but m ds faults;
          printed = out;
          told = front_is_told m ds more faults spoken numbers;
          front = begins_more (replies_but m (ds ++ more) faults) (bad_line (length (cs ++ rest) + 1)) (replies_but m ds faults) begins;
          no_line = λ whole. begins;
          all = λ e. ap (λ l. replies_but m l faults) (sym (ap (λ l. ds ++ l) (none_done (all e)) ∙ append-nil ds));
          script = λ e. absurd (unnamed e);
          source = λ e. ap (λ l. replies_but m l faults) (sym (take-append_seam ds more));
          cut = λ e. absurd (unsunk e);
          no_line_cut = λ e. absurd (unsunk e);
        };
        source = λ e. subst (λ l. AreTaken before.source.left now.source.left l) (sym seam) (taken e);
      }
    where
      seam : take (length ds) (cs ++ rest) ≡ cs
      seam = ap (λ n. take n (cs ++ rest)) same ∙ take-append_seam cs rest

      none_done : rest ≡ [] → more ≡ []
      none_done none = nil_from_length more (sym others ∙ ap length none)

      all_acked : (ended ≡ status.Done) ⊎ (ended ≡ status.Script) → length ds ≡ length (cs ++ rest)
      all_acked (inl done) = same ∙ ap length (sym (ap (λ l. cs ++ l) (all done) ∙ append-nil cs))
      all_acked (inr script) = absurd (unnamed script)

  -- the answers to all commands went out, and of the line that names a bad one so many bytes
  pub tells_line : (cs ds : List Command) (faults : List ℕ) (n : ℕ) (ended : Status) → AreSpoken ds → length ds ≡ length cs → AreFaults (length ds) faults
      → Appends before.taken now.taken (replies_but m ds faults ++ take n (bad_line (length cs + 1)))
      → (ended ≡ status.Script → take n (bad_line (length cs + 1)) ≡ bad_line (length cs + 1))
      → (ended ≡ status.Sink → n < length (bad_line (length cs + 1)))
      → ended ≢ status.Done → ended ≢ status.Source → ¬ (ScriptSpells bytes cs) → TellsAcked m bytes cs ds ended (length ds) faults faults before now
  tells_line cs ds faults n ended spoken same numbers out all part undone unfailed unspelled =
      let text : List ℕ = bad_line (length cs + 1) in
      record {
        all = λ e. same;
        replies = record {
          out = replies_but m ds faults ++ take n text;
          printed = out;
          told = whole_is_told m ds faults (take n text) spoken numbers;
          front = (drop n text, whole_line);
          no_line = λ whole. absurd (unspelled whole);
          all = λ e. absurd (undone e);
          script = λ e. ap (λ l. replies_but m ds faults ++ l) (all e);
          source = λ e. absurd (unfailed e);
          cut = λ e. shorter (replies_but m ds faults ++ text) (replies_but m ds faults ++ take n text) (drop n text) whole_line (subst (λ l. 0 < length l) (append-nil (drop n text)) (left_over text [] n (part e)));
          no_line_cut = λ e whole. absurd (unspelled whole);
        };
        source = λ e. absurd (unfailed e);
      }
    where
      whole_line : replies_but m ds faults ++ bad_line (length cs + 1) ≡ (replies_but m ds faults ++ take n (bad_line (length cs + 1))) ++ drop n (bad_line (length cs + 1))
      whole_line = ap (λ l. replies_but m ds faults ++ l) (sym (take-append-drop n (bad_line (length cs + 1)))) ∙ sym (append_assoc (replies_but m ds faults) (take n (bad_line (length cs + 1))) (drop n (bad_line (length cs + 1))))

  -- of the reply to the next command a part
  pub tells_cut : (cs ds more : List Command) (d : Command) (faults : List ℕ) (ended : Status) → AreSpoken (ds ++ d ∷ more) → AreFaults (length ds) faults
      → IsCutIn ds faults d m before now
      → ended ≢ status.Done → ended ≢ status.Script → ended ≢ status.Source → TellsAcked m bytes cs (ds ++ d ∷ more) ended (length ds) faults faults before now
  unfolding begins_cut
  tells_cut cs ds more d faults ended spoken numbers is undone unnamed unfailed =
      let mid : Machine = after m (unfaulted faults ds) in
      let text : List ℕ = reply_text (step mid d).reply in
      let goes = faults_are_in_front m ds (d ∷ more) faults numbers in
      record {
        all = λ e. absurd (⊎_elim undone unnamed e);
        replies =
            let n : ℕ = is.cut in
            let begins : BeginsWith (replies_but m (ds ++ d ∷ more) faults) (replies_but m ds faults ++ take n text) =
            begins_cut (replies_but m (ds ++ d ∷ more) faults) (replies_but m ds faults) text (replies_text (step mid d).next more) n goes.replies in
            let short = shorter (replies_but m (ds ++ d ∷ more) faults) (replies_but m ds faults ++ take n text) begins.0 begins.1 (left_over text (replies_text (step mid d).next more) n is.short) in
            record {
              out = replies_but m ds faults ++ take n text;
              printed = is.out;
              told = cut_is_told m ds more d faults n spoken numbers is.short;
              front = begins_more (replies_but m (ds ++ d ∷ more) faults) (bad_line (length cs + 1)) (replies_but m ds faults ++ take n text) begins;
              no_line = λ whole. begins;
              all = λ e. absurd (undone e);
              script = λ e. absurd (unnamed e);
              source = λ e. absurd (unfailed e);
              cut = λ e. short_of_more _ (bad_line (length cs + 1)) _ short;
              no_line_cut = λ e whole. short;
            };
        source = λ e. absurd (unfailed e);
      }

  -- of the line with which the next command was to be answered a part
  pub tells_fault_cut : (cs ds more : List Command) (d : Command) (faults : List ℕ) (ended : Status) → AreSpoken (ds ++ d ∷ more) → AreFaults (length ds) faults
      → (n : ℕ) × ((n < length fault_line) × Appends before.taken now.taken (replies_but m ds faults ++ take n fault_line))
      → ended ≢ status.Done → ended ≢ status.Script → ended ≢ status.Source
      → TellsAcked m bytes cs (ds ++ d ∷ more) ended (length ds) faults (with_next (length ds) faults) before now
  unfolding begins_cut
  tells_fault_cut cs ds more d faults ended spoken numbers is undone unnamed unfailed =
      let last : List ℕ = with_next (length ds) faults in
      let text : List ℕ = replies_but m (ds ++ d ∷ more) last in
      record {
        all = λ e. absurd (⊎_elim undone unnamed e);
        replies =
            let n : ℕ = is.0 in
            let begins : BeginsWith text (replies_but m ds faults ++ take n fault_line) =
            begins_cut text (replies_but m ds faults) fault_line (replies_text (after m (unfaulted faults ds)) more) n (next_replies ds d faults numbers m more) in
            let short = shorter text (replies_but m ds faults ++ take n fault_line) begins.0 begins.1 (left_over fault_line (replies_text (after m (unfaulted faults ds)) more) n is.1.0) in
            record {
              out = replies_but m ds faults ++ take n fault_line;
              printed = is.1.1;
              told = fault_cut_is_told m ds more d faults n spoken numbers is.1.0;
              front = begins_more text (bad_line (length cs + 1)) (replies_but m ds faults ++ take n fault_line) begins;
              no_line = λ whole. begins;
              all = λ e. absurd (undone e);
              script = λ e. absurd (unnamed e);
              source = λ e. absurd (unfailed e);
              cut = λ e. short_of_more _ (bad_line (length cs + 1)) _ short;
              no_line_cut = λ e whole. short;
            };
        source = λ e. absurd (unfailed e);
      }
