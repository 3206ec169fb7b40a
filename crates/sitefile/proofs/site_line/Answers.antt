use Rattle.std.proofs.Common.{◌≡◌, [], ◌∷◌, ◌++◌, length, Err, string_bytes, ap, ◌∙◌, subst}
use Rattle.std.proofs.lemmas.Result.{IfOk-weaker}
use Rattle.text.specs.Refusals.{make_number, BufferExactly, CountExactly}
use Rattle.replytext.specs.Replies.{refused_text, reply_text}
use Rattle.sitefile.specs.Lines.{newline, SoleReply, Shows}
use Rattle.sitefile.proofs.Sites.{text_made, too_many, shows_reply, shows_too_long}
use Rattle.sitefile.proofs.site_line.Goals as goal

pub returns-in-Ok : goal.returns-in-Ok
returns-in-Ok c =
    let input = c.args.input.now in
    let q = c.reply_to.result in
    let new = c.new-text in
    let made = text_made input _ new.result.0 new.result.1 _ c.in-Ok.is new.ensures.count new.ensures.made c.fill.ensures.length c.fill.ensures.filled in
    let told = subst (λ xs. SoleReply xs q) made.1 (c.reply_to.ensures made.2) in
    IfOk-weaker c.format.result (λ line. string_bytes line ≡ reply_text q ++ (newline ∷ [])) (λ line. Shows input (string_bytes line)) (λ line e. shows_reply input (string_bytes line) q made.0 told e)
    c.format.ensures.ok

pub returns-in-Err : goal.returns-in-Err
returns-in-Err c =
    let input = c.args.input.now in
    let new = c.new-text in
    let full = c.fill.ensures.length in
    let x = c.in-Err.refusal in
    let many = too_many (length input) new.result.1 x c.in-Err.is (subst (BufferExactly new.result.1) full new.ensures.buffer) (subst (λ n. CountExactly new.result.1 n (length input)) full new.ensures.count) in
    IfOk-weaker c.format-in-Err.result (λ line. string_bytes line ≡ refused_text (make_number (Err x)) ++ (newline ∷ [])) (λ line. Shows input (string_bytes line))
    (λ line e. shows_too_long input (string_bytes line) many.1 (e ∙ ap (λ n. refused_text n ++ (newline ∷ [])) many.0)) c.format-in-Err.ensures.ok
