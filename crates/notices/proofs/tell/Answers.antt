use mathlib.Core.Path.{◌≡◌, ◌∙◌, ap}
use Prim.Native.Nat.{ℕ, ◌+◌}
use native.Mathlib.Omega.{arith}
use lib.ListN.{length, length-take, replicate}
use Rattle.octets.specs.Bytes.{put}
use Rattle.telling.specs.Text.{in_bytes, spaces}
use Rattle.telling.specs.Notices.{word, reason}
use Rattle.telling.proofs.Computed.{reason-room, reason-stop, word_room, word-last}
use Rattle.notices.proofs.SaidLaws.{whole, told-by}
use Rattle.notices.proofs.tell.Goals.{After-say, After-say-behind}
use Rattle.notices.proofs.tell.Goals as goal

-- the word, behind the heading
said-word : (c : After-say-behind) → let w = in_bytes (word c.args.call) in
    (c.say-behind.result ≡ 45 + length w) × (c.say-behind.new.buffer ≡ put 45 w c.say_heading.new.buffer)
said-word c =
    let call = c.args.call in
    let w = c.call_word-word in
    c.say-behind.ensures 8 (in_bytes (word call)) (whole 8 (in_bytes (word call)) w.result (word_room call) w.ensures) (word-last call)

-- the reason, behind the word
said-reason : (c : After-say) → let r = in_bytes (reason c.args.number) in
    (c.say.result ≡ c.say-behind.result + length r) × (c.say.new.buffer ≡ put c.say-behind.result r c.say-behind.new.buffer)
said-reason c =
    let number = c.args.number in
    let r = c.wording-reason in
    let stop = reason-stop number in
    c.say.ensures 107 (in_bytes (reason number)) (whole 107 (in_bytes (reason number)) r.result (reason-room number) r.ensures) (λ e. omega arith)

pub say-requires : goal.say-requires
say-requires c =
    omega (arith, (said-word (goal.at.say-requires c).After-say-behind).0, word_room c.args.call, length-take 107 c.wording-reason.result, c.say-behind.auto.buffer, c.say_heading.auto.buffer, c.fill.auto.self, c.requires)

pub returns : goal.returns
unfolding spaces
returns c =
    let g = goal.at.returns c in
    let a = c.args in
    told-by a.call a.name a.number (c.fill.ensures.after (λ y e. e) ∙ ap (λ (n : ℕ). replicate n 32) c.requires) c.shown_name.ensures c.say_heading.ensures (said-word g.After-say-behind) (said-reason g.After-say)
