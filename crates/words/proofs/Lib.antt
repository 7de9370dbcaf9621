pub mod CaseLaws
pub mod JoinLaws
pub mod CopyLaws
pub mod BlockLaws
pub mod RoomLaws
pub mod CommentLaws
