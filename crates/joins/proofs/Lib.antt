mod PlaceLaws
mod JoinLaws
