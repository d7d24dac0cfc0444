mod MoveLaws
